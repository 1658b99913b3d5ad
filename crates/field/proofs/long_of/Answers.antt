-- `field::long_of` meets its contract: each way out by the tests on its way.
use mathlib.Core.Path.{sym, ◌∙◌}
use borrow.Author.Tests.{le-ltb}
use Rattle.word.proofs.Tests.{tests}
use Rattle.field.specs.Field.{long}
use Rattle.field.proofs.long_of.Goals as goal

pub returns-then-amount-lt-LONG_LEAST : goal.returns-then-amount-lt-LONG_LEAST
unfolding long
returns-then-amount-lt-LONG_LEAST c = search (tests, ← c.bits-amount.ensures)

pub returns-then-is_set : goal.returns-then-is_set
unfolding long
returns-then-is_set c = search (tests, ← c.bits-amount.ensures, sym c.is_set.ensures ∙ c.if-is_set.true)

pub returns : goal.returns
unfolding long
returns c =
    rw (
      ← c.bits-amount.ensures,
      le-ltb _ _
          c.if-amount-lt-LONG_LEAST.false,
      sym c.is_set.ensures
          ∙ c.if-is_set.false,
    )
    (rw (c.is_set-3.ensures, c.is_set-2.ensures, c.bits.ensures) at
    c.refer.ensures)
