-- Soundness as facts of each place and of each two, both ways; that a free place asks nothing; and what a held one has.
use Prim.Native.Nat.{ℕ, ◌+◌, ◌-◌, ◌≤◌, ◌<◌}
use mathlib.Core.Path.{◌≡◌, ◌∙◌}
use mathlib.Core.Bool.{true, ◌&&◌}
use mathlib.Core.List.{List}
use native.Mathlib.Omega.{arith}
use lib.ListN.{length, get_or}
use lib.Dec.{eqb, leb}
use borrow.Author.Tests.{eq-eqb, ne_eqb, leb-true}
use Rattle.word.specs.Limits.{room_count, place_count, core_most}
use Rattle.word.specs.Runs.{Says}
use Rattle.word.specs.declared.Area.{Area}
use Rattle.word.proofs.Cases.{by-test, and_left, and_right}
use Rattle.word.proofs.Says.{says_eq, says_and, says_as, says_within}
use Rattle.map.specs.declared.Stretch.{Stretch}
use Rattle.map.specs.Map.{map_of, map_obeys, none, MapObeys}
use Rattle.map.proofs.Map.{map-length, map_obeys_says}
use Rattle.rooms.specs.Rooms.{Fair}
use Rattle.rooms.proofs.Rooms.{fair_says}
use Rattle.lists.specs.HowChain.{chain}
use Rattle.lists.specs.Obey.{tables_obey}
use Rattle.lists.specs.Load.{words_in, core_tables, Readable}
use Rattle.lists.proofs.Reading.{io_obey, core-length}
use Rattle.layout.specs.Layout.{desk_words, core_length, map_numbers, place_in, holder_of, holder_in, holders}
use Rattle.layout.proofs.Places.{holder_at_lem, length-holders, get_d_holders, place-length}
use Rattle.desk.specs.Sound.{sound, core_fits, area_in, counts_fit, load_fits, held_fits, place_fits, areas_apart, Sound, given_in}
use Rattle.desk.specs.Sound.{lists_held, HeldFacts}
use Rattle.desk.proofs.Tested.{lists_readable, says_self, places_say}

pub sound_says : (d : List ℕ) → Says (sound d) (Sound d)
unfolding sound
sound_says d =
    says_as
    (says_and (says_eq (length d) desk_words)
    (says_and (says_self (core_fits (core_length d)))
    (says_and (says_self (map_obeys (core_length d) (map_of (map_numbers d))))
    (says_and (fair_says (holders d) (length-holders d)) (places_say d)))))
    (λ h. record {
      long = h.0;
      core = h.1.0;
      map = h.1.1.0;
      fair = h.1.1.1.0;
      place = h.1.1.1.1.0;
      two = h.1.1.1.1.1;
    })
    (λ s. (s.long, (s.core, (s.map, (s.fair, (s.place, s.two))))))

-- a free place asks nothing
pub free-fits : (m : List Stretch) (l : List ℕ) → holder_of l ≡ 0 → place_fits m l ≡ true
unfolding place_fits
free-fits m l h = rw (eq-eqb (holder_of l) 0 h)

pub free-first : (l k : List ℕ) → holder_of l ≡ 0 → areas_apart l k ≡ true
unfolding areas_apart
free-first l k h = rw (eq-eqb (holder_of l) 0 h)

pub free-second : (l k : List ℕ) → holder_of k ≡ 0 → areas_apart l k ≡ true
unfolding areas_apart
free-second l k h = rw (eq-eqb (holder_of k) 0 h) (by-test (eqb (holder_of l) 0) (λ q. rw q) (λ q. rw q))

-- a sound desk is of its length
pub sound-long : (d : List ℕ) → sound d ≡ true → length d ≡ desk_words
sound-long d q = ((sound_says d).fact q).long

-- ---- what a sound desk has
module _ (d : List ℕ) (s : sound d ≡ true) where
  pub core_small : core_length d ≤ core_most
  core_small = leb-true (core_length d) 65536 (and_right (leb 1 (core_length d)) _ ((sound_says d).fact s).core)

  pub sound-map : MapObeys (core_length d) (λ r. get_or (map_of (map_numbers d)) r none)
  sound-map = (map_obeys_says (core_length d) (map_of (map_numbers d)) (map-length (map_numbers d))).fact ((sound_says d).fact s).map

  pub sound-fair : Fair (holders d)
  sound-fair = ((sound_says d).fact s).fair

  -- an area in a room's stretch lies in the core
  pub stretch_in_core : (r : ℕ) (a : Area) → r < room_count → area_in (get_or (map_of (map_numbers d)) r none) a ≡ true
      → a.at.0 + a.size ≤ core_length d
  unfolding area_in
  stretch_in_core r a h q =
      let t = get_or (map_of (map_numbers d)) r none in
      let w = (says_within a.at.0 a.size t.start.0 t.len).fact (and_right (leb 1 a.size) _ q) in
      omega (arith, w.1, sound-map.inside r h)

  -- ---- and what it says of a held place
  module _ (p : ℕ) (in_p : p < place_count) where
    pub holder_known : holder_of (place_in d p) ≤ 8
    holder_known = omega (arith, sound-fair.known p in_p, get_d_holders d p in_p, holder_at_lem d p)

    -- the stretch of the room that holds it
    abbrev stretch : Stretch
    stretch = get_or (map_of (map_numbers d)) (holder_of (place_in d p) - 1) none

    pub held_fits_lem : (holder_in d p ≡ 0 → ⊥) → held_fits stretch (place_in d p) ≡ true
    unfolding place_fits
    held_fits_lem h = rw (ne_eqb (holder_of (place_in d p)) 0 (λ z. h (holder_at_lem d p ∙ z))) at (((sound_says d).fact s).place p in_p)

    -- its area lies there, and its counts are within the limits
    held-area : (holder_in d p ≡ 0 → ⊥) → area_in stretch (given_in d p).area ≡ true
    unfolding held_fits
    held-area h = and_left (area_in stretch (given_in d p).area) _ (held_fits_lem h)

    held-rest : (holder_in d p ≡ 0 → ⊥) → (counts_fit (given_in d p) && load_fits (given_in d p) (place_in d p)) ≡ true
    unfolding held_fits
    held-rest h = and_right (area_in stretch (given_in d p).area) _ (held_fits_lem h)

    held-inside : (holder_in d p ≡ 0 → ⊥) → (given_in d p).area.at.0 + (given_in d p).area.size ≤ core_length d
    held-inside h =
        let z : holder_of (place_in d p) ≡ 0 → ⊥ = λ e. h (holder_at_lem d p ∙ e) in
        stretch_in_core (holder_of (place_in d p) - 1) (given_in d p).area (omega (arith, holder_known, z)) (held-area h)

    -- its lists can be read
    pub held_readable : (holder_in d p ≡ 0 → ⊥) → Readable (given_in d p) (lists_held d p)
    held_readable h =
        lists_readable (given_in d p) (place_in d p) (place-length d (sound-long d s) p in_p)
        (and_left (counts_fit (given_in d p)) _ (held-rest h)) (omega (arith, held-inside h, core_small))

    pub held_facts : (holder_in d p ≡ 0 → ⊥) → HeldFacts d p
    unfolding load_fits area_in
    held_facts h =
        let g = given_in d p in
        let l = lists_held d p in
        let r = held_readable h in
        let k = and_right (counts_fit g) _ (held-rest h) in
        record {
          inside = held-inside h;
          core = core_small;
          some = leb-true 1 g.area.size (and_left (leb 1 g.area.size) _ (held-area h));
          io = r.io;
          tables = r.tables;
          kept = r.kept;
          numbers = io_obey g l;
          count = core-length g l r;
          obey = and_left (tables_obey g.area (core_tables g l)) _ k;
          stage = and_right (chain g.area (words_in l g.kept)) _ (and_right (tables_obey g.area (core_tables g l)) _ k);
        }
