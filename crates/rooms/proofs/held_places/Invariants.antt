-- `rooms::held_places` meets its contract: the n held places before place i are kept, and those from there on are still to come.
use Prim.Native.Nat.{◌≤◌, ◌-◌}
use mathlib.Core.Path.{◌≡◌}
use lib.ListN.{length, drop}
use Rattle.word.proofs.Lists.{copied}
use Rattle.rooms.specs.Rooms.{held_places}
use Rattle.rooms.proofs.held_places.Given as goal

abbrev pub invariant-loop-i : goal.invariant-loop-i
invariant-loop-i l = (l.i ≤ length l.holders) × (l.n ≤ l.i) × (length l.out ≡ length l.initial.out) × (l.n ≤ length (held_places 0 l.holders))
    × (l.out ≡ copied l.initial.out 0 (held_places 0 l.holders) l.n) × (drop l.n (held_places 0 l.holders) ≡ held_places l.i (drop l.i l.holders))

abbrev pub decreases-loop-i : goal.decreases-loop-i
decreases-loop-i l = length l.holders - l.i
