-- `records::read_entries` meets its contract: at every turn the entries of the tables passed fit.
use mathlib.Core.Path.{sym, ◌∙◌}
use native.Mathlib.Omega.{arith}
use Rattle.std.proofs.Common.{rules}
use Rattle.lists.specs.Load.{core_tables}
use Rattle.lists.proofs.Reading.{core-length}
use Rattle.records.proofs.Turns.{passed_none, passed_more, passed_fails, passed_all}
use Rattle.records.proofs.read_entries.Goals as goal

pub loop-t-init : goal.loop-t-init
loop-t-init c = passed_none _ _ _ _ _

pub read_entry-requires : goal.read_entry-requires
read_entry-requires c =
    let p = c.requires in
    record { lists = p.0; table = omega arith; long = p.1 }

pub loop-t-preserved : goal.loop-t-preserved
loop-t-preserved c =
    let l = c.loop-t in
    passed_more _ _ _ _ _ l.t l.invariant (sym c.read_entry.ensures ∙ c.in_ok-read_entry.was)

pub returns-in_err-read_entry : goal.returns-in_err-read_entry
returns-in_err-read_entry c =
    let l = c.loop-t in
    let a = c.args in
    let n = core-length a.g a.lists.now c.requires.0 in
    let f = passed_fails a.g.io (core_tables a.g a.lists.now) a.exact a.b a.block.now l.t l.invariant _ (omega arith)
    (sym c.read_entry.ensures ∙ c.in_err-read_entry.was) in
    search (rules, f)

pub returns : goal.returns
returns c =
    let l = c.loop-t in
    let n = core-length c.args.g c.args.lists.now c.requires.0 in
    passed_all _ _ _ _ _ l.t l.invariant (omega arith)
