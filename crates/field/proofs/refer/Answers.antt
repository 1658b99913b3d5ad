-- `field::refer` meets its contract: each way out by the test on its way; there is a table for each word of the ranks.
use Rattle.field.specs.Field.{referred}
use Rattle.word.proofs.Tests.{tests}
use Rattle.lists.proofs.Reading.{core-length}
use Rattle.field.proofs.refer.Goals as goal

pub returns-then-k-g : goal.returns-then-k-g
unfolding referred
returns-then-k-g c = search (tests, core-length, rw c.address_or_length.ensures.0 at c.plus_or_minus.ensures)

pub returns : goal.returns
unfolding referred
returns c = search (tests, core-length)
