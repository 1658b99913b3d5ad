-- `program::read_bank` meets its contract: each return by the tests that led to it, which speak of the bits read.
use Rattle.word.proofs.Tests.{tests}
use Rattle.program.specs.Sections.{bank_of}
use Rattle.program.proofs.read_bank.Goals as goal

pub returns-then-bits-ne0 : goal.returns-then-bits-ne0
unfolding bank_of
returns-then-bits-ne0 c = rw (← c.bits.ensures) (search tests)

pub returns-then-bits-ne0-2 : goal.returns-then-bits-ne0-2
unfolding bank_of
returns-then-bits-ne0-2 c = rw (← c.bits-2.ensures) (rw (← c.bits.ensures) (search tests))

pub returns : goal.returns
unfolding bank_of
returns c =
    search (
      tests,
      ← c.bits-4.ensures,
      ← c.bits-3.ensures,
      ← c.bits-2.ensures,
      ← c.bits.ensures,
    )
