-- `field::switch_of` meets its contract: each way out by the test on its way.
use borrow.Author.Tests.{lt-leb}
use Rattle.word.proofs.Tests.{tests}
use Rattle.field.specs.Field.{switch}
use Rattle.field.proofs.switch_of.Goals as goal

pub returns-then-channels-k : goal.returns-then-channels-k
unfolding switch
returns-then-channels-k c = search tests

pub returns : goal.returns
unfolding switch
returns c = rw (lt-leb _ _ c.if-channels-k.false, ← c.io_assigned.ensures, ← c.bits.ensures)
