-- how the code goes, not a rule of 01
-- All counts of the holders at once, as the code makes them in one pass: how many places are free, how many each room holds, and
-- how many holders are no room's.
use Rattle.std.specs.Prelude.{ℕ, ◌+◌, min, List, map}
use Rattle.word.specs.Lists.{tab}
use Rattle.word.specs.Limits.{room_count}
use Rattle.rooms.specs.Rooms.{count}

-- where a holder is counted: 0 the free places, 1 to 8 the rooms, 9 what is no room's
unfoldable pub slot_of : ℕ → ℕ
slot_of h = min h (room_count + 1)

unfoldable pub tallied : List ℕ → List ℕ
tallied l = tab (λ k. count k (map slot_of l)) (room_count + 2)
