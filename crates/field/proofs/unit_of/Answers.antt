-- `field::unit_of` meets its contract: each way out by the tests on its way.
use Rattle.field.specs.Field.{unit}
use Rattle.word.proofs.Tests.{tests}
use Rattle.lists.proofs.Reading.{io-length}
use Rattle.field.proofs.unit_of.Goals as goal

pub returns-then-k-channels : goal.returns-then-k-channels
unfolding unit
returns-then-k-channels c = search tests

pub returns-then-k-g : goal.returns-then-k-g
unfolding unit
returns-then-k-g c = search (tests, io-length, rw c.io_assigned.ensures at c.valued_of.ensures)

pub returns : goal.returns
unfolding unit
returns c = search (tests, io-length)
