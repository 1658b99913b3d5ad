-- `field::plus_or_minus` meets its contract: each way out by the tests on its way.
use Rattle.field.specs.Field.{plus_or_minus}
use Rattle.word.proofs.Tests.{tests}
use Rattle.field.proofs.plus_or_minus.Goals as goal

pub returns-then-amount-base : goal.returns-then-amount-base
unfolding plus_or_minus
returns-then-amount-base c = search (tests, c.if-minus.true)

pub returns-then-minus : goal.returns-then-minus
unfolding plus_or_minus
returns-then-minus c = search (tests, c.if-minus.true)

pub returns : goal.returns
unfolding plus_or_minus
returns c = search (tests, c.if-minus.false)
