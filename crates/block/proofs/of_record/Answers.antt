-- `block::of_record` meets its contract: each return by the tests that led to it.
use Rattle.block.specs.Fieldata.{spelt}
use Rattle.block.specs.Records.{modification, program, termination}
use Rattle.block.proofs.of_record.Goals as goal

pub returns-in-Modification : goal.returns-in-Modification
unfolding modification spelt
returns-in-Modification c = rw (c.in-Modification.is, ← c.word_at-first.ensures)

pub returns-in-Program : goal.returns-in-Program
unfolding program spelt
returns-in-Program c = rw (c.in-Program.is, ← c.word_at-first.ensures)

pub returns-in-Termination : goal.returns-in-Termination
unfolding termination spelt
returns-in-Termination c = rw (c.in-Termination.is, ← c.word_at-first.ensures)
