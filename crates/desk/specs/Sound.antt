-- "A desk is sound when its map obeys the rules above, each held area lies in its room's stretch, held areas share no word, F is at
-- least H, no room holds over two, each copied list obeys refusal 8, and each other stored number is in the range that docs/ lists
-- for it, given the others." (01, "The desk"; docs/DESK.md lists the ranges.) A desk that is not of its length or not sound meets
-- 1.
use Rattle.std.specs.Prelude.{ℕ, ◌+◌, ◌-◌, ◌≤◌, ◌<◌, ◌≡◌, Bool, true, cond, ◌&&◌, ◌||◌, List, length, get_or, eqb, leb}
use Rattle.word.specs.Lists.{every, every_two}
use Rattle.word.specs.Runs.{within, apart}
use Rattle.word.specs.Limits.{place_count, core_most, io_most, tables_most}
use Rattle.word.specs.declared.Area.{Area}
use Rattle.map.specs.declared.Stretch.{Stretch}
use Rattle.map.specs.Map.{map_of, map_obeys, none}
use Rattle.rooms.specs.Rooms.{fair, Fair, held_places}
use Rattle.lists.specs.declared.Given.{Given}
use Rattle.lists.specs.HowChain.{chain}
use Rattle.lists.specs.Obey.{tables_obey, is_io_number}
use Rattle.lists.specs.Load.{words_in, core_tables, io_numbers}
use Rattle.stage.specs.Ranges.{stage_fits}
use Rattle.layout.specs.declared.Place.{Place}
use Rattle.layout.specs.Layout.{desk_words, place_words, core_length, map_numbers, place_in, places, holder_of}
use Rattle.layout.specs.Layout.{own_of, stage_in, lists_in, holders}

-- an area lies in a stretch, and is not empty
unfoldable pub area_in : Stretch → Area → Bool
area_in s a = leb 1 a.size && within a.at.0 a.size s.start.0 s.len

-- refusal 8, "over 128 entries": the counts of a place's lists are within the limits
unfoldable pub counts_fit : Given → Bool
counts_fit g = leb g.io io_most && (leb g.tables tables_most && leb g.kept tables_most)

-- refusal 8, "a table not inside the area, or two tables sharing a word": of the tables one by one and pair by pair. Then the
-- ranges of the kept words and of the stage. The code looks at the kept words alone: where those pass, the tables obey, whatever
-- the ranks are (`order_sound`, crate lists). "Half a pair, an I/O number over 65,535": a desk has no room for either. It keeps
-- tables, not numbers of a list, and 16 bits an I/O number (`io_obey`, crate lists).
unfoldable pub load_fits : Given → List ℕ → Bool
load_fits g l =
    tables_obey g.area (core_tables g (lists_in l))
    && (chain g.area (words_in (lists_in l) g.kept)
    && stage_fits g.area (core_tables g (lists_in l)) g.io (stage_in l))

-- a place that a room holds, s its stretch
unfoldable pub held_fits : Stretch → List ℕ → Bool
held_fits s l = area_in s (own_of l).given.area && (counts_fit (own_of l).given && load_fits (own_of l).given l)

-- of a free place nothing is asked
unfoldable pub place_fits : List Stretch → List ℕ → Bool
place_fits m l = cond (eqb (holder_of l) 0) true (held_fits (get_or m (holder_of l - 1) none) l)

-- the areas of two places that are held share no word
unfoldable pub areas_apart : List ℕ → List ℕ → Bool
areas_apart l k =
    eqb (holder_of l) 0
    || (eqb (holder_of k) 0
    || apart (own_of l).given.area.at.0 (own_of l).given.area.size (own_of k).given.area.at.0 (own_of k).given.area.size)

-- a core has from 1 to 65,536 words
abbrev pub core_fits : ℕ → Bool
core_fits n = leb 1 n && leb n core_most

unfoldable pub sound : List ℕ → Bool
sound d =
    eqb (length d) desk_words
    && (core_fits (core_length d)
    && (map_obeys (core_length d) (map_of (map_numbers d))
    && (fair (holders d)
    && (every (place_fits (map_of (map_numbers d))) (places d)
    && every_two areas_apart (places d)))))

-- the same as facts, of each place and of each two (`sound_says`, proofs/Facts.antt: the test says them, both ways)
pub record Sound (d : List ℕ) : Type 0 where
  pub long : length d ≡ desk_words
  pub core : core_fits (core_length d) ≡ true
  pub map : map_obeys (core_length d) (map_of (map_numbers d)) ≡ true
  pub fair : Fair (holders d)
  pub place : (p : ℕ) → p < place_count → place_fits (map_of (map_numbers d)) (place_in d p) ≡ true
  pub two : (p q : ℕ) → p < q → q < place_count → areas_apart (place_in d p) (place_in d q) ≡ true

-- the numbers of its own of place p of a desk
abbrev pub own_in : List ℕ → ℕ → Place
own_in d p = own_of (place_in d p)

-- what the load at place p was given, and its lists
abbrev pub given_in : List ℕ → ℕ → Given
given_in d p = (own_in d p).given

abbrev pub lists_held : List ℕ → ℕ → List ℕ
lists_held d p = lists_in (place_in d p)

-- and what a sound desk says of a place p that is held (`held_facts`, proofs/Facts.antt): its area, its lists, its stage
pub record HeldFacts (d : List ℕ) (p : ℕ) : Type 0 where
  pub inside : (given_in d p).area.at.0 + (given_in d p).area.size ≤ core_length d
  pub core : core_length d ≤ core_most
  pub some : 1 ≤ (given_in d p).area.size
  pub io : (given_in d p).io ≤ io_most
  pub tables : (given_in d p).tables ≤ tables_most
  pub kept : (given_in d p).kept ≤ tables_most
  pub numbers : every is_io_number (io_numbers (given_in d p) (lists_held d p)) ≡ true
  pub count : length (core_tables (given_in d p) (lists_held d p)) ≡ (given_in d p).tables
  pub obey : tables_obey (given_in d p).area (core_tables (given_in d p) (lists_held d p)) ≡ true
  pub stage :
      stage_fits (given_in d p).area (core_tables (given_in d p) (lists_held d p)) (given_in d p).io (stage_in (place_in d p)) ≡ true

-- a stretch that ends in the numbers of a core: what the test of a map has shown
abbrev pub SmallStretch : Stretch → Type 0
SmallStretch s = s.start.0 + s.len ≤ core_most

-- what the code has tested of a desk when it comes to the holders; and what it tests of its places, each one and each two
pub record MapTested (d : List ℕ) : Type 0 where
  pub long : length d ≡ desk_words
  pub most : core_length d ≤ core_most
  pub obeys : map_obeys (core_length d) (map_of (map_numbers d)) ≡ true

abbrev pub places_fit : List ℕ → Bool
places_fit d = every (place_fits (map_of (map_numbers d))) (places d) && every_two areas_apart (places d)

-- the places that are held, named; place q - 1, which is held where q is not 0, beside another; and two places, the first held
pub record HeldNamed (d held : List ℕ) : Type 0 where
  pub map : MapTested d
  pub rooms : fair (holders d) ≡ true
  pub named : held ≡ held_places 0 (holders d)

pub record LastHeld (d : List ℕ) (q : ℕ) (place : List ℕ) : Type 0 where
  pub desk : length d ≡ desk_words
  pub most : q ≤ place_count
  pub long : length place ≡ place_words
  pub held : 0 < q → holder_of (place_in d (q - 1)) ≡ 0 → ⊥

pub record FirstHeld (one other : List ℕ) : Type 0 where
  pub first : length one ≡ place_words
  pub second : length other ≡ place_words
  pub held : holder_of one ≡ 0 → ⊥
