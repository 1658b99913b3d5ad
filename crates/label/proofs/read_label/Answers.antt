-- `label::read_label` meets its contract: each return by what the readers of its parts have answered.
use mathlib.Core.Path.{sym, ◌∙◌}
use native.Mathlib.Omega.{arith}
use Rattle.label.specs.Tables.{table_words}
use borrow.Author.Tests.{eq-eqb, ne_eqb}
use Rattle.label.specs.Label.{label_of}
use Rattle.label.proofs.Spelt.{name_good, name_bad}
use Rattle.label.proofs.Tables.{few, table_few, stand_within}
use Rattle.label.proofs.TableTurns.{tables_good, tables_bad}
use borrow.Author.Rules.{rules}
use Rattle.label.proofs.read_label.Goals as goal

pub returns-then-bits-ne1 : goal.returns-then-bits-ne1
unfolding label_of
returns-then-bits-ne1 c =
    rw (
      c.further.ensures,
      name_good _ (sym c.read_name.ensures ∙ c.in_ok-read_name.was),
      ← c.bits.ensures,
      ne_eqb _ _ c.if-bits-ne1.true,
    )

pub finish-requires : goal.finish-requires
finish-requires c =
    let g = tables_good _ _ (sym c.read_tables.ensures ∙ c.in-Ok.is) in
    (search rules, rw g.1 (few _ (stand_within _ g.0)))

pub further-requires-in-Err : goal.further-requires-in-Err
further-requires-in-Err c =
    let g = tables_bad _ _ (sym c.read_tables.ensures ∙ c.in-Err.is) in
    let b = c.args.block.now in
    rw g.1 (omega (arith, table_few (table_words b)))

pub returns-in-Ok : goal.returns-in-Ok
unfolding label_of
returns-in-Ok c =
    let g = tables_good _ _ (sym c.read_tables.ensures ∙ c.in-Ok.is) in
    rw (
      name_good _ (sym c.read_name.ensures ∙ c.in_ok-read_name.was),
      ← c.bits.ensures,
      eq-eqb _ _ c.if-bits-ne1.false,
      g.0,
      ← g.1,
    )
    c.finish.ensures

pub returns-in-Err : goal.returns-in-Err
unfolding label_of
returns-in-Err c =
    let g = tables_bad _ _ (sym c.read_tables.ensures ∙ c.in-Err.is) in
    rw (
      c.further-in-Err.ensures,
      name_good _ (sym c.read_name.ensures ∙ c.in_ok-read_name.was),
      ← c.bits.ensures,
      eq-eqb _ _ c.if-bits-ne1.false,
      g.0,
      g.1,
    )

pub returns-in_err-read_name : goal.returns-in_err-read_name
unfolding label_of
returns-in_err-read_name c =
    let g = name_bad _ _ (sym c.read_name.ensures ∙ c.in_err-read_name.was) in
    search (rules, g.0, g.1)
