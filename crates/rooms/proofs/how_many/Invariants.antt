-- `rooms::how_many` meets its contract: after so many turns n counts the numbers before.
use mathlib.Core.Path.{◌≡◌}
use lib.ListN.{take}
use Rattle.rooms.specs.Rooms.{count}
use Rattle.rooms.proofs.how_many.Given as goal

abbrev pub invariant-loop-a : goal.invariant-loop-a
invariant-loop-a l = l.n ≡ count l.x (take l.a-index l.numbers)
