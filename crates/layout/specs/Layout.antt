-- Where each number of a desk stands (docs/DESK.md has the table). A desk is the core length, the map's sixteen numbers and twelve
-- places; a place is its holder, its area, the counts of its lists, its stage, and the lists as the crate lists keeps them. Only
-- what a count says is there is read: of a free place nothing but its holder.
use Rattle.std.specs.Prelude.{ℕ, ◌+◌, ◌*◌, Bool, ◌&&◌, List, get_or, eqb, ltb}
use Rattle.word.specs.Lists.{range, tab}
use Rattle.word.specs.Limits.{place_count, map_words}
use Rattle.lists.specs.Load.{list_words}
use Rattle.stage.specs.Stage.{stage_of}
use Rattle.stage.specs.declared.Stage.{Stage}
use Rattle.layout.specs.declared.Place.{Place}

-- the core length and the map come first
abbrev pub core_at : ℕ
core_at = 0

abbrev pub map_at : ℕ
map_at = 1

abbrev pub fixed_words : ℕ
fixed_words = map_at + map_words

-- where a place's own numbers stand in it
abbrev pub holder_at : ℕ
holder_at = 0

abbrev pub area_at : ℕ
area_at = 1

abbrev pub size_at : ℕ
size_at = 2

abbrev pub io_at : ℕ
io_at = 3

abbrev pub tables_at : ℕ
tables_at = 4

abbrev pub kept_at : ℕ
kept_at = 5

-- and behind them those of its stage, and those of its lists in one stretch
abbrev pub stage_at : ℕ
stage_at = 6

abbrev pub stage_words : ℕ
stage_words = 9

abbrev pub lists_at : ℕ
lists_at = stage_at + stage_words

abbrev pub place_words : ℕ
place_words = lists_at + list_words

abbrev pub desk_words : ℕ
desk_words = fixed_words + place_count * place_words

abbrev pub core_length : List ℕ → ℕ
core_length d = get_or d core_at 0

-- start, length, start, length, .. of the rooms' stretches
unfoldable pub map_numbers : List ℕ → List ℕ
map_numbers d = range d map_at map_words

-- where place p begins, and its numbers
abbrev pub base : ℕ → ℕ
base p = fixed_words + p * place_words

unfoldable pub place_in : List ℕ → ℕ → List ℕ
place_in d p = range d (base p) place_words

-- all twelve
unfoldable pub places : List ℕ → List (List ℕ)
places d = tab (place_in d) place_count

-- ---- of a place's numbers l

-- the numbers of its own: the holder, 0 where the place is free and r + 1 where room r holds it; and what its load was given: the
-- area; how many I/O references, core tables and kept words there are
abbrev pub holder_of : List ℕ → ℕ
holder_of l = get_or l holder_at 0

unfoldable pub own_of : List ℕ → Place
own_of l = record {
  holder = holder_of l;
  given = record {
    area = record { at = record { 0 = get_or l area_at 0 }; size = get_or l size_at 0 };
    io = get_or l io_at 0;
    tables = get_or l tables_at 0;
    kept = get_or l kept_at 0;
  };
}

-- what the load waits for
unfoldable pub stage_in : List ℕ → Stage
stage_in l = stage_of (range l stage_at stage_words)

-- its lists; what stands where in them says the crate lists
unfoldable pub lists_in : List ℕ → List ℕ
lists_in l = range l lists_at list_words

-- who holds place p of a desk, and who holds each
abbrev pub holder_in : List ℕ → ℕ → ℕ
holder_in d p = get_or d (base p) 0

unfoldable pub holders : List ℕ → List ℕ
holders d = tab (holder_in d) place_count

-- room r holds place p: where it does not, the refusal is 9, "place over 11, free, or another room's"
unfoldable pub holds : List ℕ → ℕ → ℕ → Bool
holds d r p = ltb p place_count && eqb (holder_in d p) (r + 1)
