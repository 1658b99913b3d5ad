-- `block::seal_of` meets its contract: what its callees give, last call first.
use Rattle.block.specs.HowChecksum.{seal_of}
use Rattle.block.proofs.seal_of.Goals as goal

pub returns : goal.returns
unfolding seal_of
returns c = rw (c.fold.ensures, c.carry_round-twice.ensures, c.carry_round-once.ensures)
