-- `rooms::fair` meets its contract: after i turns the first i holders are counted.
use Prim.Native.Nat.{◌≤◌, ◌-◌}
use mathlib.Core.Path.{◌≡◌}
use lib.ListN.{length}
use Rattle.rooms.proofs.Counted.{Counted}
use Rattle.rooms.proofs.fair.Given as goal

abbrev pub invariant-loop-i : goal.invariant-loop-i
invariant-loop-i l = (l.i ≤ length l.holders) × (length l.n ≡ 8) × (l.seconds ≤ l.i) × (Counted l.holders l.i l.n l.seconds)

abbrev pub decreases-loop-i : goal.decreases-loop-i
decreases-loop-i l = length l.holders - l.i
