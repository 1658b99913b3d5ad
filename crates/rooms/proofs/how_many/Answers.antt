-- `rooms::how_many` meets its contract: after so many turns n counts the numbers before.
use mathlib.Core.Path.{refl, ◌∙◌, ap}
use native.Mathlib.Omega.{arith}
use lib.Seq.{take_all}
use Rattle.rooms.specs.Rooms.{count, hit}
use Rattle.rooms.proofs.Count.{count-take, count-take_most}
use Rattle.rooms.proofs.how_many.Goals as goal

pub loop-a-init : goal.loop-a-init
unfolding count
loop-a-init c = refl

pub overflow_add-n : goal.overflow_add-n
overflow_add-n c = grind (arith, count-take_most c.args.x c.args.numbers.now c.loop-a.a-index)

pub loop-a-preserved : goal.loop-a-preserved
unfolding hit
loop-a-preserved c = grind (arith, count-take c.args.x c.args.numbers.now c.loop-a.a-index)

pub returns : goal.returns
returns c = c.loop-a.invariant ∙ ap (count c.args.x) (take_all _ _ (omega arith))
