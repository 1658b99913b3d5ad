-- The pass over the held places: those before place p are in order, no two of their areas share a word, and of each room that holds
-- one of them the last is known.
use Prim.Native.Nat.{ℕ, suc, ◌+◌, ◌-◌, ◌≤◌, ◌<◌}
use mathlib.Core.Path.{◌≡◌, refl, sym, ◌∙◌}
use mathlib.Core.Bool.{true, false, ◌||◌, true≢false}
use mathlib.Core.List.{List}
use native.Mathlib.Omega.{arith}
use native.Mathlib.Numerals.{add-one}
use lib.ListN.{length, get_or, set, drop, drop_of_length-le, replicate, get_or-replicate}
use lib.Seq.{drop-cons, get_or-set_same, get_or-set_other}
use lib.Dec.{eqb, leb}
use borrow.Author.Tests.{ne_eqb, eq-eqb}
use Rattle.word.specs.Limits.{room_count, place_count, core_most}
use Rattle.word.proofs.Cases.{by-test, by-eq, by-lt, and_left, and_right}
use Rattle.word.proofs.Lists.{length-range}
use Rattle.word.proofs.Says.{says_within, says_apart}
use Rattle.map.specs.declared.Stretch.{Stretch}
use Rattle.map.specs.Map.{stretch_of, map_of, map_obeys, Separate}
use Rattle.map.proofs.Map.{map_at_lem, map_of_says}
use Rattle.rooms.specs.Rooms.{fair, held_places, Fair}
use Rattle.rooms.proofs.Rooms.{fair_says, no_third}
use Rattle.rooms.proofs.Held.{Next, held_next, held_none}
use Rattle.layout.specs.Layout.{desk_words, core_length, map_numbers, place_in, holder_of, own_of, holders}
use Rattle.layout.proofs.Places.{holder_at_lem, length-holders, get_d_holders}
use Rattle.desk.specs.Sound.{area_in, held_fits, place_fits, areas_apart, SmallStretch, places_fit}
use Rattle.desk.proofs.Tested.{places_say}
use Rattle.desk.proofs.Facts.{free-fits, free-first, free-second}

-- ---- two areas in stretches that share no word
module _ (s t : Stretch) (l k : List ℕ) where
  area_of_lem : (r : Stretch) (m : List ℕ) → held_fits r m ≡ true
      → (r.start.0 ≤ (own_of m).given.area.at.0)
      × ((own_of m).given.area.at.0 + (own_of m).given.area.size ≤ r.start.0 + r.len)
  unfolding held_fits area_in
  area_of_lem r m q =
      let a = (own_of m).given.area in
      (says_within a.at.0 a.size r.start.0 r.len).fact (and_right (leb 1 a.size) _ (and_left (area_in r a) _ q))

  pub other_rooms_apart : held_fits s l ≡ true → held_fits t k ≡ true → Separate s t → areas_apart l k ≡ true
  unfolding areas_apart
  other_rooms_apart f g h =
      let a = area_of_lem s l f in
      let b = area_of_lem t k g in
      let x = (own_of l).given.area in
      let y = (own_of k).given.area in
      let e = (says_apart x.at.0 x.size y.at.0 y.size).test
      (λ i u v w z. h i (omega arith) (omega arith) (omega arith) (omega arith)) in
      by-test (eqb (holder_of l) 0) (λ q. rw q) (λ q. by-test (eqb (holder_of k) 0) (λ r. rw (q, r)) (λ r. rw (q, r) e))

-- ---- of a desk whose map obeys and whose holders are fair
pub map-numbers-length : (d : List ℕ) → length d ≡ desk_words → length (map_numbers d) ≡ 16
unfolding map_numbers
map-numbers-length d h = length-range d 1 16 (omega arith)

-- a room's stretch ends in the numbers of a core
pub stretch_small : (d : List ℕ) → core_length d ≤ core_most → map_obeys (core_length d) (map_of (map_numbers d)) ≡ true → (r : ℕ)
    → r < room_count
    → SmallStretch (stretch_of (map_numbers d) r)
stretch_small d h q r k = omega (arith, ((map_of_says (core_length d) (map_numbers d)).fact q).inside r k)

-- who holds a place, by the list of the holders
holder_of_lem : (d : List ℕ) (q : ℕ) → q < place_count → get_or (holders d) q 0 ≡ holder_of (place_in d q)
holder_of_lem d q h = get_d_holders d q h ∙ holder_at_lem d q

-- the places of `held` before its ith are those that are held before place p: they are in order, no two share a word, and `last`
-- has for each room one more than the last that it holds, or 0
pub record Looked (d held : List ℕ) (i p : ℕ) (last : List ℕ) : Type 0 where
  pub left : drop i held ≡ held_places p (drop p (holders d))
  pub fit : (q : ℕ) → q < p → place_fits (map_of (map_numbers d)) (place_in d q) ≡ true
  pub two : (q k : ℕ) → q < k → k < p → areas_apart (place_in d q) (place_in d k) ≡ true
  pub most : (r : ℕ) → r < room_count → get_or last r 0 ≤ p
  pub theirs : (r : ℕ) → r < room_count → 0 < get_or last r 0 → holder_of (place_in d (get_or last r 0 - 1)) ≡ r + 1
  pub latest : (r q : ℕ) → r < room_count → q < p → holder_of (place_in d q) ≡ r + 1 → q < get_or last r 0

-- and that for some p
pub record LookedSo (d held : List ℕ) (i : ℕ) (last : List ℕ) : Type 0 where
  pub past : ℕ
  pub so : Looked d held i past last

pub looked_none : (d held : List ℕ) → held ≡ held_places 0 (holders d) → Looked d held 0 0 (replicate 8 0)
looked_none d held e = record {
  left = e;
  fit = λ q h. absurd (omega arith);
  two = λ q k h j. absurd (omega arith);
  most = λ r h. omega (arith, get_or-replicate {A = ℕ} 8 r 0 0 h);
  theirs = λ r h z. absurd (omega (arith, get_or-replicate {A = ℕ} 8 r 0 0 h));
  latest = λ r q h k. absurd (omega arith);
}

module _ (d held last : List ℕ) (i p : ℕ) (f : fair (holders d) ≡ true) (l : Looked d held i p last) where
  is_fair : Fair (holders d)
  is_fair = (fair_says (holders d) (length-holders d)).fact f

  -- at the end no more place is held
  module _ (end : length held ≤ i) where
    free-left : (q : ℕ) → p ≤ q → q < place_count → holder_of (place_in d q) ≡ 0
    free-left q h k =
        sym (holder_of_lem d q k)
        ∙ held_none (holders d) p (sym (drop_of_length-le held end) ∙ l.left) q h (omega (arith, length-holders d))

    pub looked_end : true ≡ places_fit d
    looked_end = sym ((places_say d).test (
      λ q h. by-lt q p (l.fit q) (λ k. free-fits _ _ (free-left q k h)),
      λ q k h j. by-lt k p (l.two q k h) (λ o. free-second _ _ (free-left k o j)),
    ))

  -- the next held place, of room r
  module _ (more : i < length held) where
    next : Next (holders d) p (get_or held i 0) (drop (suc i) held)
    next = held_next (holders d) p (get_or held i 0) (drop (suc i) held) (sym (drop-cons held i 0 more) ∙ l.left)

    pub next_inside : get_or held i 0 < 12
    next_inside = omega (arith, next.inside, length-holders d)

    pub next_held : holder_of (place_in d (get_or held i 0)) ≡ 0 → ⊥
    next_held z = next.held (holder_of_lem d (get_or held i 0) next_inside ∙ z)

    pub next_known : holder_of (place_in d (get_or held i 0)) ≤ 8
    next_known = omega (arith, is_fair.known (get_or held i 0) next_inside, holder_of_lem d (get_or held i 0) next_inside)

    free-between : (q : ℕ) → p ≤ q → q < get_or held i 0 → holder_of (place_in d q) ≡ 0
    free-between q h k = sym (holder_of_lem d q (omega (arith, next_inside))) ∙ next.free q h k

    -- it is in order just when it fits in its room's stretch
    module _ (r : ℕ) (room : r < room_count) (e : holder_of (place_in d (get_or held i 0)) ≡ r + 1) where
      next_fits : place_fits (map_of (map_numbers d)) (place_in d (get_or held i 0)) ≡ held_fits (stretch_of (map_numbers d) r)
          (place_in d (get_or held i 0))
      unfolding place_fits
      next_fits =
          let z : holder_of (place_in d (get_or held i 0)) - 1 ≡ r = omega arith in
          rw (ne_eqb (holder_of (place_in d (get_or held i 0))) 0 next_held, z, map_at_lem (map_numbers d) r room)

      pub looked_unfit : held_fits (stretch_of (map_numbers d) r) (place_in d (get_or held i 0)) ≡ false
          → false ≡ places_fit d
      looked_unfit g =
          by-test (places_fit d)
          (λ t. absurd (true≢false (sym (((places_say d).fact t).0 (get_or held i 0) next_inside) ∙ next_fits ∙ g)))
          sym

      -- the last place of the room before it
      last-before : get_or last r 0 ≤ get_or held i 0
      last-before = omega (arith, l.most r room, next.low)

      pub last-inside : get_or last r 0 ≤ 12
      last-inside = omega (arith, last-before, next_inside)

      pub last-held : 0 < get_or last r 0 → holder_of (place_in d (get_or last r 0 - 1)) ≡ 0 → ⊥
      last-held k z = omega (arith, l.theirs r room k)

      pub looked_shared : (eqb (get_or last r 0) 0 || areas_apart (place_in d (get_or last r 0 - 1)) (place_in d (get_or held i 0))) ≡ false
          → false ≡ places_fit d
      looked_shared g = by-eq (get_or last r 0) 0
          (λ z. absurd (true≢false (rw (eq-eqb (get_or last r 0) 0 z) at g)))
          (λ z. by-test (places_fit d)
          (λ t. absurd (true≢false
          (sym (((places_say d).fact t).1 (get_or last r 0 - 1) (get_or held i 0) (omega (arith, last-before)) next_inside)
          ∙ (rw (ne_eqb (get_or last r 0) 0 z) at g))))
          sym)

      -- passed: it shares no word with a place before it
      module _ (obeys : map_obeys (core_length d) (map_of (map_numbers d)) ≡ true)
          (g : held_fits (stretch_of (map_numbers d) r) (place_in d (get_or held i 0)) ≡ true)
          (h : (eqb (get_or last r 0) 0 || areas_apart (place_in d (get_or last r 0 - 1)) (place_in d (get_or held i 0))) ≡ true) where
        fit_next : (q : ℕ) → q < get_or held i 0 + 1 → place_fits (map_of (map_numbers d)) (place_in d q) ≡ true
        fit_next q k = by-lt q p (l.fit q) (λ o. by-eq q (get_or held i 0)
            (λ z. rw z (next_fits ∙ g))
            (λ z. free-fits _ _ (free-between q o (omega arith))))

        held-before : (q o : ℕ) → q < p → o < 8 → holder_of (place_in d q) ≡ o + 1
            → held_fits (stretch_of (map_numbers d) o) (place_in d q) ≡ true
        unfolding place_fits
        held-before q o k j b =
            let z : holder_of (place_in d q) - 1 ≡ o = omega arith in
            rw (ne_eqb (holder_of (place_in d q)) 0 (λ y. omega arith), z, map_at_lem (map_numbers d) o j) at (l.fit q k)

        -- of the same room: it is the last, as no room holds three
        same_room : (q : ℕ) → q < p → holder_of (place_in d q) ≡ r + 1 → areas_apart (place_in d q) (place_in d (get_or held i 0)) ≡ true
        same_room q k b =
            let o = l.latest r q room k b in
            by-eq q (get_or last r 0 - 1)
            (λ z. rw z (rw (ne_eqb (get_or last r 0) 0 (λ y. omega arith)) at h))
            (λ z. absurd (no_third (holders d) r q (get_or last r 0 - 1) (get_or held i 0) is_fair room (omega arith)
            (omega (arith, last-before)) next_inside
            (holder_of_lem d q (omega (arith, next.low, next_inside)) ∙ b)
            (holder_of_lem d (get_or last r 0 - 1) (omega (arith, last-before, next_inside)) ∙ l.theirs r room (omega arith))
            (holder_of_lem d (get_or held i 0) next_inside ∙ e)))

        -- of another room: their stretches share no word
        other_room : (q : ℕ) → q < p → (holder_of (place_in d q) ≡ 0 → ⊥) → (holder_of (place_in d q) ≡ r + 1 → ⊥)
            → areas_apart (place_in d q) (place_in d (get_or held i 0)) ≡ true
        other_room q k z y =
            let in-q : q < place_count = omega (arith, next.low, next_inside) in
            let o : holder_of (place_in d q) - 1 < 8 = omega (arith, is_fair.known q in-q, holder_of_lem d q in-q) in
            let b : holder_of (place_in d q) ≡ holder_of (place_in d q) - 1 + 1 = omega arith in
            other_rooms_apart (stretch_of (map_numbers d) (holder_of (place_in d q) - 1)) (stretch_of (map_numbers d) r) (place_in d q)
            (place_in d (get_or held i 0))
            (held-before q (holder_of (place_in d q) - 1) k o b) g
            (((map_of_says (core_length d) (map_numbers d)).fact obeys).separate (holder_of (place_in d q) - 1) r o room
            (λ w. y (omega arith)))

        apart_next : (q : ℕ) → q < get_or held i 0 → areas_apart (place_in d q) (place_in d (get_or held i 0)) ≡ true
        apart_next q k = by-lt q p
            (λ o. by-eq (holder_of (place_in d q)) 0 (free-first _ _)
            (λ z. by-eq (holder_of (place_in d q)) (r + 1) (same_room q o) (other_room q o z)))
            (λ o. free-first _ _ (free-between q o k))

        two_next : (q k : ℕ) → q < k → k < get_or held i 0 + 1 → areas_apart (place_in d q) (place_in d k) ≡ true
        two_next q k a b = by-lt k p (l.two q k a) (λ o. by-eq k (get_or held i 0)
            (λ z. rw z (apart_next q (omega arith)))
            (λ z. free-second _ _ (free-between k o (omega arith))))

        pub looked_more : length last ≡ 8 → Looked d held (i + 1) (get_or held i 0 + 1) (set last r (get_or held i 0 + 1))
        looked_more w =
            let at = get_or held i 0 in
            let same : get_or (set last r (at + 1)) r 0 ≡ at + 1 = get_or-set_same last r (at + 1) 0 (omega arith) in
            let other : (o : ℕ) → (o ≡ r → ⊥)
            → get_or (set last r (at + 1)) o 0 ≡ get_or last o 0 = λ o z. get_or-set_other last r o (at + 1) 0 z in
            record {
              left = rw (add-one i) next.rest;
              fit = fit_next;
              two = two_next;
              most = λ o j. by-eq o r
                  (λ z. rw (z, same) (omega arith))
                  (λ z. rw (other o z) (omega (arith, l.most o j, next.low)));
              theirs = λ o j k. by-eq o r
                  (λ z. let back : at + 1 - 1 ≡ at = omega arith in rw (z, same, back) e)
                  (λ z. rw (other o z) (l.theirs o j (rw (other o z) at k)));
              latest = λ o q j k b. by-eq o r
                  (λ z. rw (z, same) k)
                  (λ z. rw (other o z) (by-lt q p
                  (λ m. l.latest o q j m b)
                  (λ m. by-eq q at
                  (λ y. absurd (z (omega (arith, rw y at b))))
                  (λ y. absurd (omega (arith, free-between q m (omega arith)))))));
            }

-- where no place is held there is nothing to look at
pub nothing_held : (d : List ℕ) → fair (holders d) ≡ true → length (held_places 0 (holders d)) ≡ 0 → true ≡ places_fit d
nothing_held d f e = looked_end d (held_places 0 (holders d)) (replicate 8 0) 0 0 f (looked_none d (held_places 0 (holders d)) refl)
    (omega arith)
