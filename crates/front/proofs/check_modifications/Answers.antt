-- `front::check_modifications` meets its contract: at every turn the blocks passed are right.
use borrow.Author.Rules.{rules}
use mathlib.Core.Path.{sym, ◌∙◌}
use Rattle.front.proofs.Blocks.{none_yet, one_more, first_wrong_lem, all_right}
use native.Mathlib.Omega.{arith}
use Rattle.front.proofs.check_modifications.Goals as goal

pub loop-i-init : goal.loop-i-init
loop-i-init c = none_yet _

pub loop-i-preserved : goal.loop-i-preserved
loop-i-preserved c =
    let l = c.loop-i in
    one_more _ l.i l.invariant (sym c.check_modification.ensures ∙ c.in_ok-check_modification.was)

pub returns-in_err-check_modification : goal.returns-in_err-check_modification
returns-in_err-check_modification c =
    let l = c.loop-i in
    let f = first_wrong_lem _ l.i _ c.args.m (omega arith) l.invariant (sym c.check_modification.ensures ∙ c.in_err-check_modification.was) in
    search (rules, f)

pub returns : goal.returns
returns c =
    let l = c.loop-i in
    all_right _ l.i _ (omega arith) (omega arith) l.invariant
