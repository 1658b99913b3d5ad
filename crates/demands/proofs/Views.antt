-- What of the desk and the core is a load's: its place, and its area's words. Another load's is as it was where a state differs in
-- one load's alone.
use Prim.Native.Nat.{ℕ, ◌+◌, ◌-◌, ◌≤◌, ◌<◌}
use mathlib.Core.Path.{◌≡◌, refl, sym, ap, ap₂, ◌∙◌}
use mathlib.Core.Bool.{true, false, cond, true≢false}
use mathlib.Core.List.{List}
use mathlib.Core.Logic.{inl, inr}
use native.Mathlib.Omega.{arith}
use lib.ListN.{length, get_or, replicate, length-replicate}
use lib.Seq.{ext_get_or}
use lib.Dec.{eqb}
use borrow.Author.Tests.{eq-eqb, ne_eqb, le-leb, lt-ltb}
use Rattle.word.specs.Limits.{place_count}
use Rattle.word.specs.Lists.{range, splice, cleared}
use Rattle.word.specs.declared.Area.{Area}
use Rattle.word.proofs.Cases.{by-eq, by-lt}
use Rattle.word.proofs.Lists.{length-range, length-range-min, length-range_most, get_d_range, get_d_splice_out, range-splice-before}
use Rattle.word.proofs.Lists.{range-splice-after, range-splice-same}
use Rattle.word.proofs.Stretch.{Beside}
use Rattle.stage.specs.declared.Stage.{Stage}
use Rattle.stage.specs.Stage.{numbers_of}
use Rattle.stage.proofs.Back.{stage-length, stage_back}
use Rattle.lists.specs.Load.{list_words}
use Rattle.layout.specs.declared.Place.{Place}
use Rattle.layout.specs.Layout.{stage_at, place_words, fixed_words, base, place_in, holder_of, own_of, stage_in, lists_at, lists_in}
use Rattle.layout.proofs.Places.{place-length, written-length, place-written, place_kept}
use Rattle.desk.specs.Sound.{sound}
use Rattle.desk.proofs.Facts.{sound-long}
use Rattle.feed.specs.Feed.{load_in, staged}
use Rattle.demands.specs.History.{State, is_in}
use Rattle.demands.proofs.Held.{area_of, held-apart}

-- ---- the view of a load
pub record View : Type 0 where
  pub place : List ℕ
  pub words : List ℕ

-- how many words of the core are a place's: of a free one none
unfoldable pub extent : List ℕ → ℕ
extent l = cond (eqb (holder_of l) 0) 0 (area_of l).size

unfoldable pub words_of : List ℕ → List ℕ → List ℕ
words_of l core = range core (area_of l).at.0 (extent l)

unfoldable pub view : ℕ → State → View
view p s = record { place = place_in s.desk p; words = words_of (place_in s.desk p) s.core }

pub view_eq : (v w : View) → v.place ≡ w.place → v.words ≡ w.words → v ≡ w
view_eq v w p q = λ i. record { place = p i; words = q i }

pub extent-free : (l : List ℕ) → holder_of l ≡ 0 → extent l ≡ 0
unfolding extent
extent-free l h = rw (eq-eqb (holder_of l) 0 h)

pub extent-held : (l : List ℕ) → (holder_of l ≡ 0 → ⊥) → extent l ≡ (area_of l).size
unfolding extent
extent-held l h = rw (ne_eqb (holder_of l) 0 h)

-- of a held place the words are the area's
pub words_held : (p : ℕ) (s t : State) → view p t ≡ view p s → (holder_of (place_in s.desk p) ≡ 0 → ⊥)
    → range t.core (area_of (place_in s.desk p)).at.0 (area_of (place_in s.desk p)).size
    ≡ range s.core (area_of (place_in s.desk p)).at.0 (area_of (place_in s.desk p)).size
unfolding view words_of
words_held p s t v h =
    rw (ap (λ (w : View). w.place) v, extent-held (place_in s.desk p) h) at (ap (λ (w : View). w.words) v)

-- ---- stretches of two cores
range_by : (k core : List ℕ) (a n : ℕ) → length (range k a n) ≡ length (range core a n)
    → ((j : ℕ) → a ≤ j → j < a + n → get_or k j 0 ≡ get_or core j 0) → range k a n ≡ range core a n
range_by k core a n e h =
    ext_get_or 0 _ _ e
    (λ i g. let m : i < n = omega (arith, length-range_most k a n) in
    get_d_range k a n i m ∙ h (a + i) (omega arith) (omega arith) ∙ sym (get_d_range core a n i m))

pub range_alike : (k core : List ℕ) (a n : ℕ) → length k ≡ length core → ((j : ℕ) → a ≤ j → j < a + n → get_or k j 0 ≡ get_or core j 0)
    → range k a n ≡ range core a n
range_alike k core a n e = range_by k core a n (length-range-min k a n ∙ rw e (sym (length-range-min core a n)))

pub range_inside : (k core : List ℕ) (a n : ℕ) → a + n ≤ length k → a + n ≤ length core
    → ((j : ℕ) → a ≤ j → j < a + n → get_or k j 0 ≡ get_or core j 0) → range k a n ≡ range core a n
range_inside k core a n h g = range_by k core a n (length-range k a n h ∙ sym (length-range core a n g))

pub alike_range : (k core : List ℕ) (a n : ℕ) → range k a n ≡ range core a n → (j : ℕ) → a ≤ j → j < a + n
    → get_or k j 0 ≡ get_or core j 0
alike_range k core a n e j h g =
    let z : a + (j - a) ≡ j = omega arith in
    rw z at (sym (get_d_range k a n (j - a) (omega arith)) ∙ ap (λ (l : List ℕ). get_or l (j - a) 0) e
    ∙ get_d_range core a n (j - a) (omega arith))

-- a word outside an area
pub outside_area : (area : Area) (j : ℕ) → is_in area j ≡ false → area.at.0 ≤ j → j < area.at.0 + area.size → ⊥
outside_area area j q a b = true≢false (rw (le-leb area.at.0 j a, lt-ltb j (area.at.0 + area.size) b) at q)

pub outside_beside : (j a n : ℕ) → (a ≤ j → j < a + n → ⊥) → Beside j a n
outside_beside j a n h = by-lt j a (λ l. inl l) (λ l. by-lt j (a + n) (λ g. absurd (h l g)) (λ g. inr g))

pub cleared_words : (core : List ℕ) (a n : ℕ) → a + n ≤ length core → range (cleared core a n) a n ≡ replicate n 0
unfolding cleared
cleared_words core a n h =
    let e = length-replicate {A = ℕ} n 0 in
    rw e at (range-splice-same core a (replicate n 0) (omega arith))

-- ---- a state that differs at most at place p, not in what the place holds, and in its area's words
pub record Confined (p : ℕ) (s t : State) : Type 0 where
  pub long : length t.desk ≡ length s.desk
  pub fixed : range t.desk 0 fixed_words ≡ range s.desk 0 fixed_words
  pub others : (q : ℕ) → (q ≡ p → ⊥) → place_in t.desk q ≡ place_in s.desk q
  pub own : own_of (place_in t.desk p) ≡ own_of (place_in s.desk p)
  pub core : length t.core ≡ length s.core
  pub beside : (j : ℕ) → Beside j (area_of (place_in s.desk p)).at.0 (extent (place_in s.desk p))
      → get_or t.core j 0 ≡ get_or s.core j 0

pub confined_same : (p : ℕ) (s : State) → Confined p s s
confined_same p s = record { long = refl; fixed = refl; others = λ q n. refl; own = refl; core = refl; beside = λ j b. refl }

pub extent_of : (l k : List ℕ) → own_of l ≡ own_of k → extent l ≡ extent k
unfolding extent own_of
extent_of l k q = ap (λ (o : Place). cond (eqb o.holder 0) 0 o.given.area.size) q

pub words_of_lem : (l k core : List ℕ) → own_of l ≡ own_of k → words_of l core ≡ words_of k core
unfolding words_of
words_of_lem l k core q = ap₂ (λ (a n : ℕ). range core a n) (ap (λ (o : Place). o.given.area.at.0) q) (extent_of l k q)

-- a load's view is as it was where its place is, and its area's words are
words_by : (l k core : List ℕ) → length k ≡ length core
    → ((holder_of l ≡ 0 → ⊥) → (j : ℕ) → (area_of l).at.0 ≤ j → j < (area_of l).at.0 + (area_of l).size → get_or k j 0 ≡ get_or core j 0)
    → words_of l k ≡ words_of l core
unfolding words_of
words_by l k core e h =
    by-eq (holder_of l) 0
    (λ z. range_alike k core _ _ e (λ j a b. absurd (omega (arith, extent-free l z))))
    (λ z. rw (extent-held l z) (range_alike k core _ _ e (h z)))

pub view_by : (s t : State) (q : ℕ) → place_in t.desk q ≡ place_in s.desk q → length t.core ≡ length s.core
    → ((holder_of (place_in s.desk q) ≡ 0 → ⊥) → (j : ℕ) → (area_of (place_in s.desk q)).at.0 ≤ j
    → j < (area_of (place_in s.desk q)).at.0 + (area_of (place_in s.desk q)).size → get_or t.core j 0 ≡ get_or s.core j 0)
    → view q t ≡ view q s
unfolding view
view_by s t q p e h = view_eq (view q t) (view q s) p (rw p (words_by (place_in s.desk q) t.core s.core e h))

-- another load's view is as it was
module _ (p : ℕ) (s t : State) (ok : sound s.desk ≡ true) (c : Confined p s t) (q : ℕ) (n : q ≡ p → ⊥) where
  abbrev mine : List ℕ
  mine = place_in s.desk q

  abbrev its : List ℕ
  its = place_in s.desk p

  untouched : (holder_of mine ≡ 0 → ⊥) → (j : ℕ) → (area_of mine).at.0 ≤ j → j < (area_of mine).at.0 + (area_of mine).size
      → get_or t.core j 0 ≡ get_or s.core j 0
  untouched held j a b =
      c.beside j (by-eq (holder_of its) 0
      (λ z. outside_beside j _ _ (λ x y. omega (arith, extent-free its z)))
      (λ z. rw (extent-held its z) (outside_beside j _ _ (λ x y. held-apart s.desk ok q p n held z j a b x y))))

  pub view-kept : view q t ≡ view q s
  view-kept = view_by s t q (c.others q n) c.core untouched

-- ---- a place whose stage alone is written
own_staged : (l : List ℕ) (t : Stage) → length l ≡ place_words → own_of (splice l stage_at (numbers_of t)) ≡ own_of l
unfolding own_of
own_staged l t h =
    let e = stage-length t in
    let at : (i : ℕ) → i < 6 → get_or (splice l stage_at (numbers_of t)) i 0 ≡ get_or l i 0 =
    λ i g. get_d_splice_out l 6 (numbers_of t) i (omega arith) (λ x y. omega arith) in
    rw (at 0 (omega arith), at 1 (omega arith), at 2 (omega arith), at 3 (omega arith), at 4 (omega arith), at 5 (omega arith))

-- the lists stand behind it
load-staged : (l : List ℕ) (t : Stage) → length l ≡ place_words → load_in (splice l stage_at (numbers_of t)) ≡ load_in l
unfolding load_in lists_in
load-staged l t h =
    let n = stage-length t in
    rw (own_staged l t h, range-splice-after l 6 (numbers_of t) lists_at list_words (omega arith) (omega arith))

module _ (d : List ℕ) (ok : sound d ≡ true) (p : ℕ) (h : p < place_count) (t : Stage) where
  few : stage_at + length (numbers_of t) ≤ place_words
  few = omega (arith, stage-length t)

  pub staged-place : place_in (staged d p t) p ≡ splice (place_in d p) 6 (numbers_of t)
  unfolding staged
  staged-place = place-written d (sound-long d ok) p h 6 (numbers_of t) few

  pub staged_own : own_of (place_in (staged d p t) p) ≡ own_of (place_in d p)
  staged_own = rw staged-place (own_staged (place_in d p) t (place-length d (sound-long d ok) p h))

  pub staged-stage : stage_in (place_in (staged d p t) p) ≡ t
  unfolding stage_in
  staged-stage =
      let n = stage-length t in
      let e = place-length d (sound-long d ok) p h in
      rw (staged-place, rw n at (range-splice-same (place_in d p) 6 (numbers_of t) (omega arith))) (stage_back t)

  pub staged-load : load_in (place_in (staged d p t) p) ≡ load_in (place_in d p)
  staged-load = rw staged-place (load-staged (place_in d p) t (place-length d (sound-long d ok) p h))

  pub staged_confined : (core k : List ℕ) → length k ≡ length core
      → ((j : ℕ) → Beside j (area_of (place_in d p)).at.0 (extent (place_in d p)) → get_or k j 0 ≡ get_or core j 0)
      → Confined p (record { desk = d; core = core }) (record { desk = staged d p t; core = k })
  unfolding staged
  staged_confined core k e b =
      let l = sound-long d ok in record {
        long = written-length d l p h 6 (numbers_of t) few ∙ sym l;
        fixed = range-splice-before d (base p + stage_at) (numbers_of t) 0 17 (omega arith) (omega (arith, few));
        others = place_kept d l p h 6 (numbers_of t) few;
        own = staged_own;
        core = e;
        beside = b;
      }
