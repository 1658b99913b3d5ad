-- A write inside one place changes that place so, and leaves every other place, the core length and the map. What is known of a
-- place that a room holds.
use Prim.Native.Nat.{ℕ, ◌+◌, ◌≤◌, ◌<◌}
use mathlib.Core.Path.{◌≡◌, sym, ap, ◌∙◌}
use mathlib.Core.Bool.{true}
use mathlib.Core.List.{List}
use native.Mathlib.Omega.{arith}
use lib.ListN.{length, get_or, set, length-set}
use lib.Seq.{ext_get_or, get_or-set_same, get_or-set_other}
use lib.Dec.{ltb}
use borrow.Author.Tests.{eqb-true, ltb-true}
use Rattle.lists.specs.Load.{list_words}
use Rattle.word.specs.Lists.{range, splice}
use Rattle.word.specs.Limits.{place_count}
use Rattle.word.proofs.Cases.{and_left, and_right, by-eq, by-lt}
use Rattle.word.proofs.Lists.{length-range, get_d_range, length-splice, range-splice-before, range-splice-after, range-splice_inner}
use Rattle.word.proofs.Lists.{get_d_splice_in, get_d_splice_out, length-tab, get_d_tab}
use Rattle.layout.specs.Layout.{place_words, desk_words, base, core_length, map_numbers, place_in, holder_of, holder_in, holders}
use Rattle.layout.specs.Layout.{holds, lists_in}

pub holder_at_lem : (d : List ℕ) (p : ℕ) → get_or d (base p) 0 ≡ holder_of (place_in d p)
unfolding place_in
holder_at_lem d p = sym (get_d_range d (base p) place_words 0 (omega arith) ∙ ap (λ (i : ℕ). get_or d i 0) (omega arith))

pub length-holders : (d : List ℕ) → length (holders d) ≡ 12
unfolding holders
length-holders d = length-tab (λ p. get_or d (base p) 0) 12

pub get_d_holders : (d : List ℕ) (p : ℕ) → p < place_count → get_or (holders d) p 0 ≡ get_or d (base p) 0
unfolding holders
get_d_holders d p h = get_d_tab (λ q. get_or d (base q) 0) 12 p 0 h

module _ (d : List ℕ) (long : length d ≡ desk_words) (p : ℕ) (in_p : p < place_count) where
  pub place-length : length (place_in d p) ≡ place_words
  unfolding place_in
  place-length = length-range d (base p) place_words (omega arith)

  -- vs written from the place's number o on
  module _ (o : ℕ) (vs : List ℕ) (fits : o + length vs ≤ place_words) where
    pub written-length : length (splice d (base p + o) vs) ≡ desk_words
    written-length = length-splice d (base p + o) vs (omega arith) ∙ long

    pub place-written : place_in (splice d (base p + o) vs) p ≡ splice (place_in d p) o vs
    unfolding place_in
    place-written = range-splice_inner d (base p) place_words o vs (omega arith) fits

    -- a stretch that lies before the place, or after it
    kept_at : (a n : ℕ) → (a ≤ base p + 302 → base p < a + n → ⊥) → range (splice d (base p + o) vs) a n ≡ range d a n
    kept_at a n h =
        by-lt (base p) (a + n)
        (λ l. range-splice-after d (base p + o) vs a n (by-lt a (base p + o + length vs) (λ g. absurd (h (omega arith) l)) (λ g. g))
        (omega arith))
        (λ l. range-splice-before d (base p + o) vs a n (omega arith) (omega arith))

    pub place_kept : (q : ℕ) → (q ≡ p → ⊥) → place_in (splice d (base p + o) vs) q ≡ place_in d q
    unfolding place_in
    place_kept q ne = kept_at (base q) place_words (λ x y. ne (omega arith))

    pub map-kept : map_numbers (splice d (base p + o) vs) ≡ map_numbers d
    unfolding map_numbers
    map-kept = kept_at 1 16 (λ x y. omega arith)

    pub core-kept : core_length (splice d (base p + o) vs) ≡ core_length d
    core-kept = get_d_splice_out d (base p + o) vs 0 (omega arith) (λ x y. omega arith)

    -- the holders, where the place's own is written and where it is not
    pub holders-kept : 0 < o → holders (splice d (base p + o) vs) ≡ holders d
    holders-kept h =
        ext_get_or 0 _ _ (length-holders (splice d (base p + o) vs) ∙ sym (length-holders d))
        (λ q g. let k : q < place_count = omega (arith, length-holders (splice d (base p + o) vs)) in
        get_d_holders (splice d (base p + o) vs) q k
        ∙ get_d_splice_out d (base p + o) vs (base q) (omega arith) (λ x y. omega arith)
        ∙ sym (get_d_holders d q k))

    pub holders-written : o ≡ 0 → 0 < length vs → holders (splice d (base p + o) vs) ≡ set (holders d) p (get_or vs 0 0)
    holders-written z h =
        let e = length-holders d in
        ext_get_or 0 _ _ (length-holders (splice d (base p + o) vs) ∙ sym (length-set (holders d) p (get_or vs 0 0) ∙ e))
        (λ q g. let k : q < place_count = omega (arith, length-holders (splice d (base p + o) vs)) in
        get_d_holders (splice d (base p + o) vs) q k ∙ by-eq q p
        (λ y. let i : base p + o + 0 ≡ base q = omega arith in
        rw i at (get_d_splice_in d (base p + o) vs 0 h (omega arith))
        ∙ sym (rw y (get_or-set_same (holders d) p (get_or vs 0 0) 0 (omega arith))))
        (λ y. get_d_splice_out d (base p + o) vs (base q) (omega arith) (λ a b. y (omega arith))
        ∙ sym (get_or-set_other (holders d) p q (get_or vs 0 0) 0 y ∙ get_d_holders d q k)))

-- ---- the lists of a place
pub lists_length : (l : List ℕ) → length l ≡ place_words → length (lists_in l) ≡ list_words
unfolding lists_in
lists_length l h = length-range l 15 list_words (omega arith)

-- ---- a place that a room holds is one of the twelve, and the room is its holder
module _ (d : List ℕ) (r p : ℕ) (q : holds d r p ≡ true) where
  pub holds-inside : p < place_count
  unfolding holds
  holds-inside = ltb-true p place_count (and_left (ltb p place_count) _ q)

  pub holds_holder : holder_in d p ≡ r + 1
  unfolding holds
  holds_holder = eqb-true (holder_in d p) (r + 1) (and_right (ltb p place_count) _ q)
