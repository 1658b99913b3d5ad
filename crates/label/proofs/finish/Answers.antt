-- `label::finish` meets its contract: each return by the tests that led to it, which speak of the bits read.
use mathlib.Core.Path.{sym, ◌∙◌}
use borrow.Author.Tests.{eq-eqb, ne_eqb}
use Rattle.label.specs.Label.{finished}
use Rattle.label.proofs.finish.Goals as goal

pub returns-then-c-bits : goal.returns-then-c-bits
unfolding finished
returns-then-c-bits c = rw (c.bad_at.ensures, ← c.bits.ensures, ne_eqb _ _ c.if-c-bits.true)

pub returns-then-not-program_word_fits : goal.returns-then-not-program_word_fits
unfolding finished
returns-then-not-program_word_fits c =
    rw (
      c.bad_at-then-not-program_word_fits.ensures,
      ← c.bits.ensures,
      eq-eqb _ _ c.if-c-bits.false,
      sym c.program_word_fits.ensures ∙ c.if-not-program_word_fits.true,
    )

pub returns-then-block : goal.returns-then-block
unfolding finished
returns-then-block c =
    rw (
      c.bad_at-then-block.ensures,
      ← c.bits.ensures,
      eq-eqb _ _ c.if-c-bits.false,
      sym c.program_word_fits.ensures ∙ c.if-not-program_word_fits.false,
      ne_eqb _ _ c.if-block.true,
    )

pub returns : goal.returns
unfolding finished
returns c =
    rw (
      ← c.bits.ensures,
      eq-eqb _ _ c.if-c-bits.false,
      sym c.program_word_fits.ensures ∙ c.if-not-program_word_fits.false,
      eq-eqb _ _ c.if-block.false,
      c.bits-2.ensures,
      c.is_set.ensures,
    )
