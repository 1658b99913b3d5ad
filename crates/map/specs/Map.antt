-- The map: "eight pairs, start and length of each room's stretch, as eight records handled whole. The stretches lie inside the
-- core and share no word." (01, "The desk"; refusal 3)
use Rattle.std.specs.Prelude.{ℕ, ◌+◌, ◌*◌, ◌<◌, ◌≤◌, Bool, ◌&&◌, List, ◌≢◌, slice_index}
use Rattle.word.specs.Lists.{every, every_two, tab}
use Rattle.word.specs.Limits.{room_count}
use Rattle.word.specs.Runs.{within, apart, Apart}
use Rattle.map.specs.declared.Stretch.{Stretch}

-- room r's pair of a list start, length, start, length and so on; what stands past the list's end reads as 0
unfoldable pub stretch_of : List ℕ → ℕ → Stretch
stretch_of l r = record { start = record { 0 = slice_index l (2 * r) }; len = slice_index l (2 * r + 1) }

-- "eight pairs", one for each room
unfoldable pub map_of : List ℕ → List Stretch
map_of l = tab (stretch_of l) room_count

-- a stretch lies inside the core
unfoldable pub in_core : ℕ → Stretch → Bool
in_core core s = within s.start.0 s.len 0 core

-- two stretches share no word
unfoldable pub stretches_apart : Stretch → Stretch → Bool
stretches_apart s t = apart s.start.0 s.len t.start.0 t.len

-- "The stretches lie inside the core and share no word."
unfoldable pub map_obeys : ℕ → List Stretch → Bool
map_obeys core m = every (in_core core) m && every_two stretches_apart m

-- The same as facts: of two stretches, and of all eight, where `room r` is room r's.
abbrev pub Separate : Stretch → Stretch → Type 0
Separate s t = Apart s.start.0 s.len t.start.0 t.len

pub record MapObeys (core : ℕ) (room : ℕ → Stretch) : Type 0 where
  pub inside : (r : ℕ) → r < room_count → (room r).start.0 + (room r).len ≤ core
  pub separate : (r q : ℕ) → r < room_count → q < room_count → (r ≢ q) → Separate (room r) (room q)

-- what is read past a map's end: no word
abbrev pub none : Stretch
none = record { start = record { 0 = 0 }; len = 0 }
