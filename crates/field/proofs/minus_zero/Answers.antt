-- `field::minus_zero` meets its contract: either way out by its test.
use Rattle.field.specs.Field.{minus_zero}
use Rattle.word.proofs.Tests.{tests}
use Rattle.field.proofs.minus_zero.Goals as goal

pub returns-then-minus : goal.returns-then-minus
unfolding minus_zero
returns-then-minus c = search (tests, c.if-minus.true)

pub returns-else-minus : goal.returns-else-minus
unfolding minus_zero
returns-else-minus c = search (tests, c.if-minus.false)
