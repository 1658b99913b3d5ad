-- `map::read_map` meets its contract: after r turns the first r stretches are those that the list tells.
use Rattle.std.proofs.Common.{refl, arith, length-set}
use Rattle.map.specs.Map.{map_of}
use Rattle.word.proofs.Fill.{filled_none, filled_more, filled-all}
use Rattle.map.proofs.read_map.Goals as goal

pub loop-r-init : goal.loop-r-init
loop-r-init c = record { rooms = refl; told = filled_none _ _ }

pub loop-r-preserved : goal.loop-r-preserved
loop-r-preserved c = record {
  rooms = simp length-set c.loop-r.invariant.rooms;
  told = filled_more _ _ _ _ _ (omega arith) c.stretch_of.ensures c.loop-r.invariant.told;
}

pub returns : goal.returns
unfolding map_of
returns c = filled-all _ _ 8 _ _ (omega arith) refl c.loop-r.invariant.told
