-- A desk with one place written anew is sound again where the new numbers are in order beside the other places; so it is where only
-- the stage of a place is written, and the new stage is in range.
use Prim.Native.Nat.{ℕ, ◌+◌, ◌-◌, ◌≤◌, ◌<◌}
use mathlib.Core.Path.{◌≡◌, refl, sym, ap, ◌∙◌}
use mathlib.Core.Bool.{true, or-true}
use mathlib.Core.List.{List}
use native.Mathlib.Omega.{arith}
use lib.ListN.{length, get_or, set, length-set}
use lib.Seq.{ext_get_or, get_or-set_same, get_or-set_other, set-get_or}
use lib.Dec.{eqb}
use borrow.Author.Tests.{ne_eqb}
use Rattle.word.specs.Limits.{place_count}
use Rattle.word.specs.Lists.{splice}
use Rattle.word.specs.Runs.{apart}
use Rattle.word.proofs.Cases.{by-test, by-eq, by-lt, and_left, and_right}
use Rattle.word.proofs.Lists.{range-splice-same, range-splice-after, get_d_splice_out}
use Rattle.word.proofs.Says.{says_apart}
use Rattle.map.specs.declared.Stretch.{Stretch}
use Rattle.map.specs.Map.{map_of, none}
use Rattle.rooms.specs.Rooms.{Fair}
use Rattle.lists.specs.HowChain.{chain}
use Rattle.lists.specs.Obey.{tables_obey}
use Rattle.lists.specs.Load.{list_words, words_in, core_tables}
use Rattle.lists.specs.declared.Given.{Given}
use Rattle.stage.specs.Stage.{numbers_of, stage_of}
use Rattle.stage.specs.Ranges.{stage_fits}
use Rattle.stage.specs.declared.Stage.{Stage}
use Rattle.stage.proofs.Back.{stage_back, stage-length}
use Rattle.layout.specs.declared.Place.{Place}
use Rattle.layout.specs.Layout.{stage_at, place_words, desk_words, core_length, map_numbers, base, place_in, holder_of, own_of, stage_in}
use Rattle.layout.specs.Layout.{lists_in, holders}
use Rattle.layout.proofs.Places.{holder_at_lem, length-holders, get_d_holders, place-length, written-length, place-written, place_kept}
use Rattle.layout.proofs.Places.{map-kept, core-kept}
use Rattle.desk.specs.Sound.{area_in, counts_fit, load_fits, held_fits, place_fits, areas_apart, sound, own_in, given_in, lists_held}
use Rattle.desk.proofs.Facts.{sound_says, sound-long, free-fits}

-- ---- a desk with one place written anew: e is d, but for place p, whose numbers are l
pub record Replaced (d : List ℕ) (p : ℕ) (l e : List ℕ) : Type 0 where
  pub long : length e ≡ desk_words
  pub core : core_length e ≡ core_length d
  pub map_same : map_numbers e ≡ map_numbers d
  pub here : place_in e p ≡ l
  pub others : (q : ℕ) → (q ≡ p → ⊥) → place_in e q ≡ place_in d q

pub replaced_none : (d : List ℕ) (p : ℕ) → length d ≡ desk_words → Replaced d p (place_in d p) d
replaced_none d p h = record { long = h; core = refl; map_same = refl; here = refl; others = λ q n. refl }

pub replaced_more : (d : List ℕ) (p : ℕ) (l e : List ℕ) (o : ℕ) (vs : List ℕ) → p < place_count → o + length vs ≤ place_words
    → Replaced d p l e → Replaced d p (splice l o vs) (splice e (base p + o) vs)
replaced_more d p l e o vs h k w = record {
  long = written-length e w.long p h o vs k;
  core = core-kept e w.long p h o vs k ∙ w.core;
  map_same = map-kept e w.long p h o vs k ∙ w.map_same;
  here = place-written e w.long p h o vs k ∙ ap (λ (m : List ℕ). splice m o vs) w.here;
  others = λ q n. place_kept e w.long p h o vs k q n ∙ w.others q n;
}

pub holders_replaced : (d : List ℕ) (p : ℕ) (l e : List ℕ) → p < place_count → Replaced d p l e
    → holders e ≡ set (holders d) p (holder_of l)
holders_replaced d p l e h w =
    ext_get_or 0 _ _ (length-holders e ∙ sym (length-set (holders d) p (holder_of l) ∙ length-holders d))
    (λ q g. let k : q < place_count = omega (arith, length-holders e) in
    get_d_holders e q k ∙ holder_at_lem e q ∙ by-eq q p
    (λ y. rw y (ap (λ (m : List ℕ). get_or m 0 0) w.here
    ∙ sym (get_or-set_same (holders d) p (holder_of l) 0 (omega (arith, length-holders d)))))
    (λ y. ap (λ (m : List ℕ). get_or m 0 0) (w.others q y)
    ∙ sym (get_or-set_other (holders d) p q (holder_of l) 0 y ∙ get_d_holders d q k ∙ holder_at_lem d q)))

-- ---- areas that share no word
pub areas_by : (l k : List ℕ)
    → apart (own_of l).given.area.at.0 (own_of l).given.area.size (own_of k).given.area.at.0
    (own_of k).given.area.size ≡ true
    → areas_apart l k ≡ true
unfolding areas_apart
areas_by l k h = rw (h, or-true (eqb (holder_of k) 0), or-true (eqb (holder_of l) 0))

pub areas_turned : (l k : List ℕ) → areas_apart l k ≡ true → areas_apart k l ≡ true
unfolding areas_apart
areas_turned l k q =
    let a = (own_of l).given.area in
    let b = (own_of k).given.area in
    by-test (eqb (holder_of k) 0) (λ x. rw x)
    (λ x. by-test (eqb (holder_of l) 0) (λ y. rw (x, y))
    (λ y. let f = (says_apart a.at.0 a.size b.at.0 b.size).fact (rw (y, x) at q) in
    rw (x, y) ((says_apart b.at.0 b.size a.at.0 a.size).test (λ i s t u v. f i u v s t))))

-- ---- a sound desk stays sound where the new numbers of one place are in order beside the others
module _ (d : List ℕ) (s : sound d ≡ true) (p : ℕ) (in_p : p < place_count) (l e : List ℕ) (w : Replaced d p l e)
    (fits : place_fits (map_of (map_numbers d)) l ≡ true)
    (beside : (q : ℕ) → q < place_count → (q ≡ p → ⊥) → areas_apart (place_in d q) l ≡ true) where
  each_fits : (q : ℕ) → q < place_count → place_fits (map_of (map_numbers d)) (place_in e q) ≡ true
  each_fits q h =
      by-eq q p (λ y. rw (y, w.here) fits)
      (λ y. rw (w.others q y) (((sound_says d).fact s).place q h))

  two_apart : (i j : ℕ) → i < j → j < 12 → areas_apart (place_in e i) (place_in e j) ≡ true
  two_apart i j h k =
      by-eq i p
      (λ x. rw (x, w.here, w.others j (λ z. omega arith)) (areas_turned (place_in d j) l (beside j k (λ z. omega arith))))
      (λ x. by-eq j p
      (λ y. rw (y, w.here, w.others i x) (beside i (omega arith) x))
      (λ y. rw (w.others i x, w.others j y) (((sound_says d).fact s).two i j h k)))

  pub replaced_sound : Fair (set (holders d) p (holder_of l)) → sound e ≡ true
  replaced_sound f =
      let t = (sound_says d).fact s in
      (sound_says e).test (record {
        long = w.long;
        core = rw w.core t.core;
        map = rw (w.core, w.map_same) t.map;
        fair = rw (holders_replaced d p l e in_p w) f;
        place = λ q h. rw w.map_same (each_fits q h);
        two = two_apart;
      })

-- ---- where the numbers of its own are as they were, it is enough that the place is in order
own_holder : (l m : List ℕ) → own_of l ≡ own_of m → holder_of l ≡ holder_of m
unfolding own_of
own_holder l m q = ap (λ (o : Place). o.holder) q

areas_as : (l k m : List ℕ) → own_of l ≡ own_of m → areas_apart k l ≡ areas_apart k m
unfolding areas_apart
areas_as l k m q = rw (own_holder l m q, q)

pub same_own_sound : (d : List ℕ) (s : sound d ≡ true) (p : ℕ) (in_p : p < place_count) (l e : List ℕ) → Replaced d p l e
    → own_of l ≡ own_in d p → place_fits (map_of (map_numbers d)) l ≡ true → sound e ≡ true
same_own_sound d s p in_p l e w own fits =
    let t = (sound_says d).fact s in
    let h : holder_of l ≡ get_or (holders d) p 0 = own_holder l (place_in d p) own ∙ sym (get_d_holders d p in_p ∙ holder_at_lem d p) in
    replaced_sound d s p in_p l e w fits
    (λ q k n. areas_as l (place_in d q) (place_in d p) own ∙ by-lt q p
    (λ x. t.two q p x in_p)
    (λ x. areas_turned (place_in d p) (place_in d q) (t.two p q (omega arith) k)))
    (rw (h, set-get_or (holders d) p 0) t.fair)

-- ---- a place whose stage alone is written
module _ (l : List ℕ) (long : length l ≡ place_words) (s : Stage) where
  abbrev staged : List ℕ
  staged = splice l stage_at (numbers_of s)

  fits_in : stage_at + length (numbers_of s) ≤ length l
  fits_in = omega (arith, stage-length s)

  staged-first : (i : ℕ) → i < 6 → get_or staged i 0 ≡ get_or l i 0
  staged-first i h = get_d_splice_out l 6 (numbers_of s) i fits_in (λ x y. omega arith)

  pub staged_own : own_of staged ≡ own_of l
  unfolding own_of
  staged_own =
      rw (
        staged-first 0 (omega arith),
        staged-first 1 (omega arith),
        staged-first 2 (omega arith),
        staged-first 3 (omega arith),
        staged-first 4 (omega arith),
        staged-first 5 (omega arith),
      )

  pub staged-stage : stage_in staged ≡ s
  unfolding stage_in
  staged-stage = ap stage_of (rw stage-length at (range-splice-same l 6 (numbers_of s) fits_in)) ∙ stage_back s

  pub staged_lists : lists_in staged ≡ lists_in l
  unfolding lists_in
  staged_lists = range-splice-after l 6 (numbers_of s) 15 list_words (omega (arith, stage-length s)) fits_in

  -- its lists are as they were, so the new stage is all that is asked
  staged-load : (g : Given) → load_fits g l ≡ true
      → stage_fits g.area (core_tables g (lists_in l)) g.io s ≡ true
      → load_fits g staged ≡ true
  unfolding load_fits
  staged-load g q f =
      let k = and_right (tables_obey g.area (core_tables g (lists_in l))) _ q in
      rw (
        staged_lists,
        staged-stage,
        and_left (tables_obey g.area (core_tables g (lists_in l))) _ q,
        and_left (chain g.area (words_in (lists_in l) g.kept)) _ k,
        f,
      )

  staged-held : (t : Stretch) → held_fits t l ≡ true
      → stage_fits (own_of l).given.area (core_tables (own_of l).given (lists_in l)) (own_of l).given.io s ≡ true
      → held_fits t staged ≡ true
  unfolding held_fits
  staged-held t q f =
      let o = (own_of l).given in
      let k = and_right (area_in t o.area) _ q in
      rw (
        staged_own,
        and_left (area_in t o.area) _ q,
        and_left (counts_fit o) _ k,
        staged-load o (and_right (counts_fit o) _ k) f,
      )

  pub staged-fits : (m : List Stretch) → place_fits m l ≡ true
      → stage_fits (own_of l).given.area (core_tables (own_of l).given (lists_in l)) (own_of l).given.io s ≡ true
      → place_fits m staged ≡ true
  unfolding place_fits
  staged-fits m q f =
      let h = staged-first 0 (omega arith) in
      by-eq (holder_of l) 0
      (λ z. free-fits m staged (h ∙ z))
      (λ z. let g : held_fits (get_or m (holder_of l - 1) none) l ≡ true = rw (ne_eqb (holder_of l) 0 z) at q in
      rw (h, ne_eqb (holder_of l) 0 z) (staged-held (get_or m (holder_of l - 1) none) g f))

-- a sound desk stays sound where a stage in range is written
pub stage-written-sound : (d : List ℕ) (p : ℕ) (s : Stage) → sound d ≡ true → p < place_count
    → stage_fits (given_in d p).area (core_tables (given_in d p) (lists_held d p)) (given_in d p).io s ≡ true
    → sound (splice d (base p + stage_at) (numbers_of s)) ≡ true
stage-written-sound d p s q h f =
    let l = place_in d p in
    let k = place-length d (sound-long d q) p h in
    same_own_sound d q p h _ _
    (replaced_more d p l d 6 (numbers_of s) h (omega (arith, stage-length s)) (replaced_none d p (sound-long d q)))
    (staged_own l k s) (staged-fits l k s (map_of (map_numbers d)) (((sound_says d).fact q).place p h) f)
