-- `field::short_of` meets its contract: each way out by what `minus_zero` gives of the bits read.
use mathlib.Core.Path.{sym, ◌∙◌}
use Rattle.word.proofs.Tests.{tests}
use Rattle.field.specs.Field.{short}
use Rattle.field.proofs.short_of.Goals as goal

pub returns-then-minus_zero : goal.returns-then-minus_zero
unfolding short
returns-then-minus_zero c =
    search (
      tests,
      rw (c.bits-amount.ensures, c.is_set-minus.ensures) at
          (sym c.minus_zero.ensures ∙ c.if-minus_zero.true),
    )

pub returns : goal.returns
unfolding short
returns c =
    let z = rw
    (c.bits-amount.ensures, c.is_set-minus.ensures) at (sym c.minus_zero.ensures ∙ c.if-minus_zero.false) in
    rw z (rw (c.is_set.ensures, c.bits.ensures, c.bits-amount.ensures, c.is_set-minus.ensures) at c.refer.ensures)
