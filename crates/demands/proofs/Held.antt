-- What a sound desk says of a place that is held: its area lies in the core, its load is fit to be fed, and it shares no word with
-- another's.
use Prim.Native.Nat.{ℕ, ◌+◌, ◌≤◌, ◌<◌}
use mathlib.Core.Path.{◌≡◌, sym, ◌∙◌}
use mathlib.Core.Bool.{true}
use mathlib.Core.List.{List}
use native.Mathlib.Omega.{arith}
use lib.ListN.{get_or-eq_default}
use borrow.Author.Tests.{ne_eqb}
use Rattle.word.specs.Limits.{place_count}
use Rattle.word.specs.Runs.{Apart}
use Rattle.word.specs.declared.Area.{Area}
use Rattle.word.proofs.Cases.{by-lt}
use Rattle.word.proofs.Says.{says_apart}
use Rattle.layout.specs.Layout.{core_length, place_in, holder_in, holder_of, own_of, stage_in, holds}
use Rattle.layout.proofs.Places.{holder_at_lem, holds_holder}
use Rattle.desk.specs.Sound.{areas_apart, sound}
use Rattle.desk.proofs.Facts.{sound_says, sound-long}
use Rattle.feed.specs.Feed.{load_in}
use Rattle.feed.proofs.Laws.{FitToFeed}
use Rattle.feed.proofs.Held as feeding

abbrev pub area_of : List ℕ → Area
area_of l = (own_of l).given.area

-- what the test of the holder has shown
pub held_by_lem : (d : List ℕ) (r p : ℕ) → holds d r p ≡ true → holder_of (place_in d p) ≡ r + 1
held_by_lem d r p q = sym (holder_at_lem d p) ∙ holds_holder d r p q

module _ (d : List ℕ) (s : sound d ≡ true) where
  pub free_past : (p : ℕ) → place_count ≤ p → holder_of (place_in d p) ≡ 0
  free_past p h = sym (holder_at_lem d p) ∙ get_or-eq_default d 0 (omega (arith, sound-long d s))

  module _ (p : ℕ) (held : holder_of (place_in d p) ≡ 0 → ⊥) where
    pub held_place : p < place_count
    held_place = by-lt p 12 (λ h. h) (λ h. absurd (held (free_past p h)))

    at_holder : holder_in d p ≡ 0 → ⊥
    at_holder z = held (sym (holder_at_lem d p) ∙ z)

    pub held-inside : (area_of (place_in d p)).at.0 + (area_of (place_in d p)).size ≤ core_length d
    unfolding load_in
    held-inside = feeding.held-inside d s p held_place at_holder

    pub held_fit : FitToFeed (load_in (place_in d p)) (stage_in (place_in d p))
    held_fit = feeding.held_fit d s p held_place at_holder

-- ---- two that are held share no word
abbrev ApartAreas : Area → Area → Type 0
ApartAreas a b = Apart a.at.0 a.size b.at.0 b.size

apart_says : (l k : List ℕ) → areas_apart l k ≡ true → (holder_of l ≡ 0 → ⊥) → (holder_of k ≡ 0 → ⊥) → ApartAreas (area_of l) (area_of k)
unfolding areas_apart
apart_says l k q h g =
    (says_apart (area_of l).at.0 (area_of l).size (area_of k).at.0 (area_of k).size).fact
    (rw (ne_eqb (holder_of l) 0 h, ne_eqb (holder_of k) 0 g) at q)

pub held-apart : (d : List ℕ) → sound d ≡ true → (p q : ℕ) → (p ≡ q → ⊥) → (holder_of (place_in d p) ≡ 0 → ⊥)
    → (holder_of (place_in d q) ≡ 0 → ⊥)
    → ApartAreas (area_of (place_in d p)) (area_of (place_in d q))
held-apart d s p q n h g =
    let two = ((sound_says d).fact s).two in
    by-lt p q
    (λ l. apart_says (place_in d p) (place_in d q) (two p q l (held_place d s q g)) h g)
    (λ l i a b x y. apart_says (place_in d q) (place_in d p) (two q p (omega arith) (held_place d s p h)) g h i x y a b)
