-- `records::take_label` meets its contract: each return by the tests that led to it.
use mathlib.Core.Path.{sym, ◌∙◌}
use borrow.Author.Tests.{eq-eqb, ne_eqb}
use Rattle.lists.proofs.Reading.{io-length}
use Rattle.records.specs.Label.{with_label, after_label}
use Rattle.records.proofs.take_label.Goals as goal

pub returns-then-not-assignments_fit : goal.returns-then-not-assignments_fit
unfolding with_label
returns-then-not-assignments_fit c =
    rw (
      c.further.ensures,
      sym c.assignments_fit.ensures ∙ c.if-not-assignments_fit.true,
    )

pub returns-then-entry_blocks-eq0 : goal.returns-then-entry_blocks-eq0
unfolding with_label after_label
returns-then-entry_blocks-eq0 c =
    let a = c.args in
    rw (
      sym c.assignments_fit.ensures
          ∙ c.if-not-assignments_fit.false,
      io-length a.g a.lists.now,
      ← c.entry_blocks.ensures,
      eq-eqb _ _ c.if-entry_blocks-eq0.true,
    )

pub returns : goal.returns
unfolding with_label after_label
returns c =
    let a = c.args in
    rw (
      sym c.assignments_fit.ensures
          ∙ c.if-not-assignments_fit.false,
      io-length a.g a.lists.now,
      ← c.entry_blocks.ensures,
      ne_eqb _ _ c.if-entry_blocks-eq0.false,
    )
