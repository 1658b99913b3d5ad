-- `field::pair_of` meets its contract: each way out by the tests on its way; there are as many tables as the counts say.
use mathlib.Core.Path.{sym, ◌∙◌}
use borrow.Author.Tests.{lt-ltb, le-ltb}
use Rattle.word.proofs.Tests.{tests}
use Rattle.field.specs.Field.{pair}
use Rattle.lists.proofs.Reading.{core-length}
use Rattle.field.proofs.pair_of.Goals as goal

pub returns-then-is_set : goal.returns-then-is_set
unfolding pair
returns-then-is_set c = search (tests, sym c.is_set.ensures ∙ c.if-is_set.true)

pub returns-then-l-g : goal.returns-then-l-g
unfolding pair
returns-then-l-g c =
    rw (
      sym c.is_set.ensures
          ∙ c.if-is_set.false,
      ← c.bits-2.ensures,
      core-length _ _ c.requires,
      lt-ltb _ _ c.if-l-g.true,
    )
    (rw (c.is_set-then-l-g.ensures, c.bits.ensures, c.address_or_length-amount.ensures.0) at c.refer.ensures)

pub returns : goal.returns
unfolding pair
returns c =
    rw (
      sym c.is_set.ensures
          ∙ c.if-is_set.false,
      ← c.bits-2.ensures,
      core-length _ _
          c.requires,
      le-ltb _ _ c.if-l-g.false,
    )
