-- `rooms::tally` meets its contract: after so many turns n has the counts of the first holders.
use Rattle.std.proofs.Common.{refl, arith}
use lib.ListN.{length-set}
use Rattle.rooms.specs.HowTally.{slot_of}
use Rattle.rooms.proofs.Pass.{tallied-none, tallied_most, tallied_more, tallied_end}
use Rattle.rooms.proofs.tally.Goals as goal

pub loop-h-init : goal.loop-h-init
loop-h-init c = record { slots = refl; counted = tallied-none _ }

pub overflow_add-n : goal.overflow_add-n
overflow_add-n c = omega (arith, tallied_most _ _ _ c.loop-h.invariant.counted c.min.result (omega arith))

pub loop-h-preserved : goal.loop-h-preserved
unfolding slot_of
loop-h-preserved c =
    let l = c.loop-h in
    record { slots = simp length-set l.invariant.slots; counted = tallied_more _ l.h-index _ l.invariant.counted _ (omega arith) (omega arith) }

pub returns : goal.returns
returns c = tallied_end _ c.loop-h.h-index _ c.loop-h.invariant.counted (omega arith)
