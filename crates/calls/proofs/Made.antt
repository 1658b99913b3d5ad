-- Make: the loop that frees the places, and that the desk it leaves is sound and its answer small.
use Prim.Native.Nat.{ℕ, zero, suc, ◌+◌, ◌≤◌, ◌<◌}
use mathlib.Core.Path.{◌≡◌, refl, sym, ap, ◌∙◌}
use mathlib.Core.Bool.{true}
use mathlib.Core.List.{List}
use native.Mathlib.Omega.{arith}
use native.Mathlib.Numerals.{add-one}
use lib.ListN.{length, set, replicate, length-set, get_or-replicate}
use lib.Seq.{ext_get_or, get_or-set_same, get_or-set_other}
use lib.Dec.{eqb}
use borrow.Author.Tests.{eqb-true}
use Rattle.word.specs.Limits.{place_count}
use Rattle.word.specs.Lists.{splice}
use Rattle.word.proofs.Cases.{by-eq, by-lt, both, when}
use Rattle.word.proofs.Lists.{length-splice, range-splice-same, get_d_splice_out, splice-whole}
use Rattle.word.proofs.Stretch.{splice-first}
use Rattle.map.specs.Map.{map_of, map_obeys}
use Rattle.rooms.specs.Rooms.{all_free}
use Rattle.rooms.proofs.Rooms.{fresh-fair}
use Rattle.layout.specs.Layout.{desk_words, base, core_length, map_numbers, place_in, holder_in, holder_of, holders}
use Rattle.layout.proofs.Places.{holder_at_lem, length-holders, get_d_holders}
use Rattle.desk.specs.Sound.{core_fits, sound, Sound}
use Rattle.calls.specs.Answer.{code_of, Small}
use Rattle.calls.specs.declared.Answer.TheVariants.{Made}
use Rattle.calls.specs.Make.{freed, fresh_desk, make_of}
use Rattle.calls.specs.Outcome.{Outcome}
use Rattle.desk.proofs.Facts.{sound_says, free-fits, free-first}
use Rattle.calls.proofs.Freed.{freed-core, freed-map}
use Rattle.calls.proofs.Packed.{small_fault}

-- ---- the loop: no place freed yet, and one more
pub freed-none : (d : List ℕ) → d ≡ freed 0 d
unfolding freed
freed-none d = refl

pub freed_more : (d e : List ℕ) (p : ℕ) → e ≡ freed p d → set e (base p) 0 ≡ freed (p + 1) d
unfolding freed
freed_more d e p q = rw (q, add-one p)

pub length-freed : (p : ℕ) (d : List ℕ) → length (freed p d) ≡ length d
unfolding freed
length-freed zero d = refl
length-freed (suc p) d = length-set (freed p d) (base p) 0 ∙ length-freed p d

-- ---- the places freed: the core length and the map are as they were, and nobody holds a place
module _ (d : List ℕ) (long : length d ≡ desk_words) where
  core-freed : (p : ℕ) → p ≤ 12 → core_length (freed p d) ≡ core_length d
  unfolding freed
  core-freed zero h = refl
  core-freed (suc p) h = freed-core (freed p d) (length-freed p d ∙ long) p (omega arith) ∙ core-freed p (omega arith)

  map-freed : (p : ℕ) → p ≤ 12 → map_numbers (freed p d) ≡ map_numbers d
  unfolding freed
  map-freed zero h = refl
  map-freed (suc p) h = freed-map (freed p d) (length-freed p d ∙ long) p (omega arith) ∙ map-freed p (omega arith)

  other : {p q : ℕ} → q < suc p → (q ≡ p → ⊥) → q < p
  other {p} {q} k ne = by-lt q p (λ l. l) (λ l. absurd (ne (omega arith)))

  none-held : (p : ℕ) → p ≤ 12 → (q : ℕ) → q < p → holder_in (freed p d) q ≡ 0
  unfolding freed
  none-held zero h q k = absurd (omega arith)
  none-held (suc p) h q k =
      by-eq q p
      (λ z. rw z (get_or-set_same (freed p d) (base p) 0 0 (omega (arith, length-freed p d))))
      (λ z. get_or-set_other (freed p d) (base p) (base q) 0 0 (λ y. z (omega arith)) ∙ none-held p (omega arith) q (other k z))

  holders-freed : holders (freed 12 d) ≡ all_free
  holders-freed =
      ext_get_or 0 _ _ (length-holders (freed 12 d))
      (λ q g. let k : q < place_count = omega (arith, length-holders (freed 12 d)) in
      get_d_holders (freed 12 d) q k ∙ none-held 12 (omega arith) q k ∙ sym (get_or-replicate 12 q 0 0 k))

-- ---- a copy of the map's numbers over sixteen zeros is the numbers
pub map-copied : (m copy : List ℕ) → length m ≡ 16 → copy ≡ splice (replicate 16 0) 0 m → copy ≡ m
map-copied m copy long e = e ∙ splice-whole (replicate 16 0) m long

-- ---- the core length first and the map behind it is one stretch written
module _ (d : List ℕ) (n : ℕ) (m : List ℕ) (long : length d ≡ desk_words) (map : length m ≡ 16) where
  pub fixed_length : length (splice (set d 0 n) 1 m) ≡ desk_words
  fixed_length = length-splice (set d 0 n) 1 m (rw length-set (omega arith)) ∙ length-set d 0 n ∙ long

  pub fresh_as : freed 12 (splice (set d 0 n) 1 m) ≡ fresh_desk d n m
  unfolding fresh_desk
  fresh_as = rw (splice-first d 0 n m (omega arith))

  fresh-core : core_length (fresh_desk d n m) ≡ n
  fresh-core =
      rw (← fresh_as) (core-freed _ fixed_length 12 (omega arith)
      ∙ get_d_splice_out (set d 0 n) 1 m 0 (rw length-set (omega arith)) (λ x y. omega arith)
      ∙ get_or-set_same d 0 n 0 (omega arith))

  fresh-map : map_numbers (fresh_desk d n m) ≡ m
  unfolding map_numbers
  fresh-map =
      rw (← fresh_as) (map-freed _ fixed_length 12 (omega arith)
      ∙ rw (← map) (range-splice-same (set d 0 n) 1 m (rw length-set (omega arith))))

  fresh-holders : holders (fresh_desk d n m) ≡ all_free
  fresh-holders = rw (← fresh_as) (holders-freed _ fixed_length)

  -- all holders are 0, so that the map is all that is asked
  fresh-sound : core_fits n ≡ true → map_obeys n (map_of m) ≡ true → Sound (fresh_desk d n m)
  fresh-sound c o =
      let f : (p : ℕ) → p < place_count → holder_of (place_in (fresh_desk d n m) p) ≡ 0 =
      λ p h. sym (holder_at_lem (fresh_desk d n m) p) ∙ rw (← fresh_as) (none-held _ fixed_length 12 (omega arith) p h) in
      record {
        long = rw (← fresh_as) (length-freed 12 _ ∙ fixed_length);
        core = rw fresh-core c;
        map = rw (fresh-core, fresh-map) o;
        fair = rw fresh-holders fresh-fair;
        place = λ p h. free-fits _ _ (f p h);
        two = λ p q l h. free-first _ _ (f p (omega arith));
      }

-- ---- make: what holds of the fresh desk holds of the desk that is made
make_by : (P : List ℕ → Type 0) (d : List ℕ) (n : ℕ) (m : List ℕ)
    → (length d ≡ desk_words → core_fits n ≡ true → length m ≡ 16 → map_obeys n (map_of m) ≡ true → P (fresh_desk d n m))
    → (make_of d n m).answer ≡ Made → P (make_of d n m).desk
unfolding make_of
make_by P d n m k =
    let Q : Outcome → Type 0 = λ o. o.answer ≡ Made → P o.desk in
    when Q (eqb (length d) desk_words)
    (λ a. when Q (core_fits n)
    (λ c. when Q (eqb (length m) 16)
    (λ b. when Q (map_obeys n (map_of m))
    (λ o q. k (eqb-true (length d) desk_words a) c (eqb-true (length m) 16 b) o)
    (λ o q. absurd (omega (arith, ap code_of q))))
    (λ b q. absurd (omega (arith, ap code_of q))))
    (λ c q. absurd (omega (arith, ap code_of q))))
    (λ a q. absurd (omega (arith, ap code_of q)))

module _ (d : List ℕ) (n : ℕ) (m : List ℕ) (q : (make_of d n m).answer ≡ Made) where
  pub make-sound : sound (make_of d n m).desk ≡ true
  make-sound = make_by (λ e. sound e ≡ true) d n m (λ a c b o. (sound_says (fresh_desk d n m)).test (fresh-sound d n m a b c o)) q

  pub make-core : core_length (make_of d n m).desk ≡ n
  make-core = make_by (λ e. core_length e ≡ n) d n m (λ a c b o. fresh-core d n m a b) q

  pub make-map : map_numbers (make_of d n m).desk ≡ m
  make-map = make_by (λ e. map_numbers e ≡ m) d n m (λ a c b o. fresh-map d n m a b) q

  -- all places are free
  pub make-holders : holders (make_of d n m).desk ≡ all_free
  make-holders = make_by (λ e. holders e ≡ all_free) d n m (λ a c b o. fresh-holders d n m a b) q

pub make_small : (d : List ℕ) (n : ℕ) (m : List ℕ) → Small (make_of d n m).answer
unfolding make_of
make_small d n m =
    let P : Outcome → Type 0 = λ o. Small o.answer in
    both P (eqb (length d) desk_words)
    (both P (core_fits n)
    (both P (eqb (length m) 16)
    (both P (map_obeys n (map_of m)) tt (small_fault 3 (omega arith)))
    (small_fault 3 (omega arith)))
    (small_fault 2 (omega arith)))
    (small_fault 1 (omega arith))
