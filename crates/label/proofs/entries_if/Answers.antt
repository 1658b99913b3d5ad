-- `label::entries_if` meets its contract: each return by the tests that led to it, which speak of the bits read.
use Rattle.word.proofs.Tests.{tests}
use Rattle.label.proofs.entries_if.Goals as goal

pub returns-then-bits-t : goal.returns-then-bits-t
returns-then-bits-t c = search (tests, ← c.bits-then-bits-t.ensures, ← c.bits.ensures)

pub returns-else-bits-t : goal.returns-else-bits-t
returns-else-bits-t c = search (tests, ← c.bits.ensures)
