-- What of a state is no load's; and that with the views it is the whole state.
use Prim.Native.Nat.{ℕ, zero, suc, ◌+◌, ◌-◌, ◌/◌, ◌%◌, ◌≤◌, ◌<◌}
use mathlib.Core.Path.{◌≡◌, refl, sym, ap, ap₂, ◌∙◌}
use mathlib.Core.Bool.{Bool, true, false, cond, ◌&&◌, ◌||◌, true≢false, false≢true}
use mathlib.Core.List.{List}
use native.Mathlib.Omega.{arith}
use native.Mathlib.Nat.{zero-add}
use lib.ListN.{length, get_or}
use lib.Seq.{ext_get_or}
use lib.Dec.{leb, ltb}
use borrow.Author.Tests.{leb-true, ltb-true, le-leb, lt-ltb}
use Rattle.word.specs.Limits.{place_count}
use Rattle.word.specs.Lists.{range}
use Rattle.word.proofs.Cases.{by-test, by-eq, by-lt}
use Rattle.word.proofs.Lists.{get_d_range}
use Rattle.layout.specs.declared.Place.{Place}
use Rattle.layout.specs.Layout.{place_words, fixed_words, base, place_in, own_of}
use Rattle.demands.specs.History.{State}
use Rattle.demands.proofs.Held.{area_of}
use Rattle.demands.proofs.Views.{View, extent, words_of, view, extent_of, outside_beside, Confined}

-- ---- the words that are a place's, and those that are one of the first n places'
unfoldable pub covers : List ℕ → ℕ → Bool
covers l i = leb (area_of l).at.0 i && ltb i ((area_of l).at.0 + extent l)

unfoldable pub covered : ℕ → List ℕ → ℕ → Bool
covered zero d i = false
covered (suc n) d i = covers (place_in d n) i || covered n d i

abbrev In : List ℕ → ℕ → Type 0
In l i = ((area_of l).at.0 ≤ i) × (i < (area_of l).at.0 + extent l)

covers_true : (l : List ℕ) (i : ℕ) → covers l i ≡ true → In l i
unfolding covers
covers_true l i q =
    by-test (leb (area_of l).at.0 i)
    (λ a. (leb-true _ _ a, ltb-true i _ (rw a at q)))
    (λ a. absurd (false≢true (rw a at q)))

covers_in : (l : List ℕ) (i : ℕ) → In l i → covers l i ≡ true
unfolding covers
covers_in l i h = rw (le-leb _ _ h.0, lt-ltb _ _ h.1)

covered_true : (n : ℕ) (d : List ℕ) (i : ℕ) → covered n d i ≡ true → (p : ℕ) × In (place_in d p) i
unfolding covered
covered_true zero d i q = absurd (false≢true q)
covered_true (suc n) d i q =
    by-test (covers (place_in d n) i)
    (λ a. (n, covers_true (place_in d n) i a))
    (λ a. covered_true n d i (rw a at q))

covered_false : (n : ℕ) (d : List ℕ) (i : ℕ) → covered n d i ≡ false → (p : ℕ) → p < n → In (place_in d p) i → ⊥
unfolding covered
covered_false zero d i q p h a = omega arith
covered_false (suc n) d i q p h a =
    by-test (covers (place_in d n) i)
    (λ b. true≢false (rw b at q))
    (λ b. by-eq p n
    (λ m. true≢false (sym (covers_in (place_in d n) i (rw m at a)) ∙ b))
    (λ m. covered_false n d i (rw b at q) p (omega arith) a))

-- what is covered hangs on what the places hold
covers_of : (l k : List ℕ) (i : ℕ) → own_of l ≡ own_of k → covers l i ≡ covers k i
unfolding covers
covers_of l k i q = ap₂ (λ (a n : ℕ). leb a i && ltb i (a + n)) (ap (λ (o : Place). o.given.area.at.0) q) (extent_of l k q)

covered_of : (n : ℕ) (d e : List ℕ) (i : ℕ) → ((p : ℕ) → own_of (place_in d p) ≡ own_of (place_in e p)) → covered n d i ≡ covered n e i
unfolding covered
covered_of zero d e i h = refl
covered_of (suc n) d e i h = rw (covers_of (place_in d n) (place_in e n) i (h n), covered_of n d e i h)

-- ---- what is no load's: the core length and the map, and the core's words outside every area
pub record Rest : Type 0 where
  pub fixed : List ℕ
  pub long : ℕ
  pub core : ℕ
  pub outside : ℕ → ℕ

unfoldable pub rest_of : State → Rest
rest_of s = record {
  fixed = range s.desk 0 fixed_words;
  long = length s.desk;
  core = length s.core;
  outside = λ i. cond (covered 12 s.desk i) 0 (get_or s.core i 0);
}

rest_eq : (v w : Rest) → v.fixed ≡ w.fixed → v.long ≡ w.long → v.core ≡ w.core → ((i : ℕ) → v.outside i ≡ w.outside i)
    → v ≡ w
rest_eq v w a b c d = λ i. record { fixed = a i; long = b i; core = c i; outside = λ j. d j i }

module _ (p : ℕ) (in_p : p < place_count) (s t : State) (c : Confined p s t) where
  owns : (q : ℕ) → own_of (place_in t.desk q) ≡ own_of (place_in s.desk q)
  owns q = by-eq q p (λ e. rw e c.own) (λ e. ap own_of (c.others q e))

  pub rest_still : rest_of t ≡ rest_of s
  unfolding rest_of
  rest_still =
      rest_eq (rest_of t) (rest_of s) c.fixed c.long c.core
      (λ i. rw (covered_of 12 t.desk s.desk i owns)
      (by-test (covered 12 s.desk i)
      (λ q. rw q)
      (λ q. rw q (c.beside i (outside_beside i _ _ (λ a b. covered_false 12 s.desk i q p in_p (a, b)))))))

-- ---- a state from what is no load's and the views
state_eq : (s t : State) → s.desk ≡ t.desk → s.core ≡ t.core → s ≡ t
state_eq s t p q = λ i. record { desk = p i; core = q i }

desk_at : (d : List ℕ) (j : ℕ) → fixed_words ≤ j
    → get_or d j 0 ≡ get_or (place_in d ((j - fixed_words) / place_words)) ((j - fixed_words) % place_words) 0
unfolding place_in
desk_at d j h =
    sym (get_d_range d (base ((j - fixed_words) / place_words)) place_words ((j - fixed_words) % place_words) (omega arith)
    ∙ ap (λ (n : ℕ). get_or d n 0) (omega arith))

pub fixed_at : (d : List ℕ) (j : ℕ) → j < fixed_words → get_or (range d 0 fixed_words) j 0 ≡ get_or d j 0
fixed_at d j h = get_d_range d 0 fixed_words j h ∙ rw zero-add

core_at_lem : (l core : List ℕ) (i : ℕ) → In l i → get_or core i 0 ≡ get_or (words_of l core) (i - (area_of l).at.0) 0
unfolding words_of
core_at_lem l core i h =
    let a = h.0 in
    let b = h.1 in
    sym (get_d_range core (area_of l).at.0 (extent l) (i - (area_of l).at.0) (omega arith)
    ∙ ap (λ (n : ℕ). get_or core n 0) (omega arith))

module _ (s t : State) (r : rest_of s ≡ rest_of t) (v : (p : ℕ) → view p s ≡ view p t) where
  places_same : (p : ℕ) → place_in s.desk p ≡ place_in t.desk p
  unfolding view
  places_same p = ap (λ (w : View). w.place) (v p)

  words_same : (p : ℕ) → words_of (place_in s.desk p) s.core ≡ words_of (place_in t.desk p) t.core
  unfolding view
  words_same p = ap (λ (w : View). w.words) (v p)

  desk_same : s.desk ≡ t.desk
  unfolding rest_of
  desk_same =
      ext_get_or 0 s.desk t.desk (ap (λ (x : Rest). x.long) r)
      (λ j h. by-lt j fixed_words
      (λ m. sym (fixed_at s.desk j m) ∙ ap (λ (x : Rest). get_or x.fixed j 0) r ∙ fixed_at t.desk j m)
      (λ m. desk_at s.desk j m ∙ rw (places_same ((j - fixed_words) / place_words)) (sym (desk_at t.desk j m))))

  core-same : s.core ≡ t.core
  unfolding rest_of
  core-same =
      ext_get_or 0 s.core t.core (ap (λ (x : Rest). x.core) r)
      (λ i h. by-test (covered 12 s.desk i)
      (λ c. let (p, a) = covered_true 12 s.desk i c in
      core_at_lem (place_in s.desk p) s.core i a
      ∙ rw (words_same p, places_same p) (sym (core_at_lem (place_in t.desk p) t.core i (rw (places_same p) at a))))
      (λ c. rw (c, ← covered_of 12 s.desk t.desk i (λ p. ap own_of (places_same p)), c) at
      (ap (λ (x : Rest). x.outside i) r)))

  pub whole : s ≡ t
  whole = state_eq s t desk_same core-same
