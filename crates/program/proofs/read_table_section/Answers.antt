-- `program::read_table_section` meets its contract: each return by the tests that led to it, of the bits read.
use Rattle.word.proofs.Tests.{tests}
use Rattle.program.specs.Sections.{table_section_of}
use Rattle.program.proofs.read_table_section.Goals as goal

pub returns-then-bits-ne1 : goal.returns-then-bits-ne1
unfolding table_section_of
returns-then-bits-ne1 c = search (tests, ← c.bits.ensures)

pub returns-then-bits-ne0 : goal.returns-then-bits-ne0
unfolding table_section_of
returns-then-bits-ne0 c = search (tests, ← c.bits-2.ensures, ← c.bits.ensures)

pub returns-then-count-eq0 : goal.returns-then-count-eq0
unfolding table_section_of
returns-then-count-eq0 c =
    search (
      tests,
      ← c.bits-count.ensures,
      ← c.bits-2.ensures,
      ← c.bits.ensures,
    )

pub returns : goal.returns
unfolding table_section_of
returns c =
    search (
      tests,
      ← c.bits-3.ensures,
      ← c.bits-count.ensures,
      ← c.bits-2.ensures,
      ← c.bits.ensures,
    )
