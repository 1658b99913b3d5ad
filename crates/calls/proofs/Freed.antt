-- Release: the desk it leaves is sound, and its answer small.
use Prim.Native.Nat.{ℕ, ◌+◌, ◌<◌}
use mathlib.Core.Path.{◌≡◌, refl, sym, ap, ◌∙◌}
use mathlib.Core.Bool.{true}
use mathlib.Core.List.{List, [], ◌∷◌}
use native.Mathlib.Omega.{arith}
use lib.ListN.{length, set, length-set}
use lib.Seq.{get_or-set_same}
use Rattle.word.specs.Limits.{place_count}
use Rattle.word.specs.Lists.{splice}
use Rattle.word.proofs.Cases.{by-eq, both, when}
use Rattle.word.proofs.Lists.{set-splice}
use Rattle.rooms.proofs.Rooms.{freed-fair}
use Rattle.layout.specs.Layout.{desk_words, base, core_length, map_numbers, place_in, holder_of, holders, holds}
use Rattle.layout.proofs.Places.{holds-inside, holder_at_lem, place_kept, map-kept, core-kept, holders-written}
use Rattle.desk.specs.Sound.{sound, Sound}
use Rattle.desk.proofs.Facts.{sound_says, free-fits, free-first, free-second}
use Rattle.calls.specs.Answer.{Small}
use Rattle.calls.specs.Outcome.{Outcome}
use Rattle.calls.specs.Release.{release_of}
use Rattle.calls.proofs.Entry.{entered-cases}
use Rattle.calls.proofs.Packed.{small_fault}

-- ---- a place freed: every other place, the core length and the map are as they were
module _ (d : List ℕ) (long : length d ≡ desk_words) (p : ℕ) (h : p < place_count) where
  freed_as : set d (base p) 0 ≡ splice d (base p + 0) (0 ∷ [])
  freed_as = set-splice d (base p) 0 (omega arith) ∙ ap (λ (i : ℕ). splice d i (0 ∷ [])) (omega arith)

  pub freed-core : core_length (set d (base p) 0) ≡ core_length d
  freed-core = rw freed_as (core-kept d long p h 0 (0 ∷ []) (omega arith))

  pub freed-map : map_numbers (set d (base p) 0) ≡ map_numbers d
  freed-map = rw freed_as (map-kept d long p h 0 (0 ∷ []) (omega arith))

  pub freed_other : (q : ℕ) → (q ≡ p → ⊥) → place_in (set d (base p) 0) q ≡ place_in d q
  freed_other q ne = rw freed_as (place_kept d long p h 0 (0 ∷ []) (omega arith) q ne)

  pub freed-holders : holders (set d (base p) 0) ≡ set (holders d) p 0
  freed-holders = rw freed_as (holders-written d long p h 0 (0 ∷ []) (omega arith) refl (omega arith))

  freed-free : holder_of (place_in (set d (base p) 0) p) ≡ 0
  freed-free = sym (holder_at_lem (set d (base p) 0) p) ∙ get_or-set_same d (base p) 0 0 (omega arith)

pub freed-sound : (d : List ℕ) (p : ℕ) → p < place_count → Sound d → Sound (set d (base p) 0)
freed-sound d p h s =
    let c = freed-core d s.long p h in
    let m = freed-map d s.long p h in
    let k = freed_other d s.long p h in
    let f = freed-free d s.long p h in
    record {
      long = length-set d (base p) 0 ∙ s.long;
      core = rw c s.core;
      map = rw (c, m) s.map;
      fair = rw (freed-holders d s.long p h) (freed-fair (holders d) p s.fair);
      place = λ q j. by-eq q p
          (λ z. rw z (free-fits _ _ f))
          (λ z. rw (m, k q z) (s.place q j));
      two = λ q r l j. by-eq q p
          (λ z. rw z (free-first _ _ f))
          (λ z. by-eq r p
          (λ y. rw y (free-second _ _ f))
          (λ y. rw (k q z, k r y) (s.two q r l j)));
    }

-- ---- release
pub release_sound : (d : List ℕ) (n r p : ℕ) → sound d ≡ true → sound (release_of d n r p).desk ≡ true
unfolding release_of
release_sound d n r p q =
    let P : Outcome → Type 0 = λ o. sound o.desk ≡ true in
    entered-cases d n r [] _ P (λ m l k. q)
    (λ k. when P (holds d r p)
    (λ h. (sound_says (set d (base p) 0)).test (freed-sound d p (holds-inside d r p h) ((sound_says d).fact q)))
    (λ h. q))

pub release_small : (d : List ℕ) (n r p : ℕ) → Small (release_of d n r p).answer
unfolding release_of
release_small d n r p =
    let P : Outcome → Type 0 = λ o. Small o.answer in
    entered-cases d n r [] _ P (λ m l k. small_fault m (omega arith)) (λ k. both P (holds d r p) tt (small_fault 9 (omega arith)))
