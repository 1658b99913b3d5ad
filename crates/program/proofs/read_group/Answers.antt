-- `program::read_group` meets its contract: each return by the tests that led to it, which speak of the bits read.
use Rattle.word.proofs.Tests.{tests}
use Rattle.program.specs.Groups.{group_of}
use Rattle.program.proofs.read_group.Goals as goal

pub returns-then-bits-ne2 : goal.returns-then-bits-ne2
unfolding group_of
returns-then-bits-ne2 c = search (tests, ← c.bits.ensures)

pub returns-then-program-eq0 : goal.returns-then-program-eq0
unfolding group_of
returns-then-program-eq0 c = search (tests, ← c.bits-program.ensures, ← c.bits.ensures)

pub returns : goal.returns
unfolding group_of
returns c =
    search (
      tests,
      ← c.bits-4.ensures,
      ← c.bits-3.ensures,
      ← c.is_set.ensures,
      ← c.bits-2.ensures,
      ← c.bits-program.ensures,
      ← c.bits.ensures,
    )
