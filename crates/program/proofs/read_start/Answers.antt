-- `program::read_start` meets its contract: the bits read, of the word read.
use Rattle.program.proofs.read_start.Goals as goal

pub returns : goal.returns
returns c = rw (c.bits.ensures, c.word_at.ensures)
