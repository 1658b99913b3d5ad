-- Loops over the marks: a value at each place of a tag, whether each tag has its mark, and the numbers that marks stand for.
use Prim.Native.Nat.{ℕ, zero, suc, ◌+◌, ◌-◌, ◌*◌, ◌/◌, ◌%◌, ◌≤◌, ◌<◌}
use mathlib.Core.Path.{◌≡◌, refl, sym, ap, ◌∙◌}
use mathlib.Core.Bool.{true, false, cond, false≢true}
use mathlib.Core.List.{List, ◌++◌}
use native.Mathlib.Omega.{arith}
use native.Mathlib.Nat.{zero-add}
use native.Mathlib.Numerals.{add-one}
use lib.ListN.{length, get_or, set, take, drop}
use lib.Seq.{drop-cons, append_snoc}
use lib.Dec.{eqb}
use Rattle.std.specs.Prelude.{Some, None, position}
use borrow.Author.Tests.{eqb-false, eq-eqb, ne_eqb, not-true}
use Rattle.word.specs.Lists.{every, tab, splice}
use Rattle.word.proofs.Every.{every-place}
use Rattle.word.proofs.Fill.{filled, filled_none, filled_more, filled-all}
use Rattle.word.proofs.Lists.{length-tab, lent-whole}
use Rattle.label.specs.declared.Label.{Label}
use Rattle.book.specs.Tags.{entries_of}
use Rattle.book.specs.Assign.{place_of, in_file}
use Rattle.book.specs.HowKept.{start_of, kept_of, kept_tags, marked, is_mark, numbers_of, in_pair, pairs_of, MarkReady, Marked}
use Rattle.book.specs.declared.Assignment.{Assignment}
use Rattle.book.proofs.Finding.{place_most, place-first, found, found_none}
use Rattle.book.proofs.Kept.{kept-long, kept-lent, stretch_in, of_kept}

-- ---- a value at each place of a tag
module _ (ws : List ℕ) (w v : ℕ) (ms : List ℕ) where
  abbrev mark_at : ℕ → ℕ
  mark_at j = cond (eqb (get_or ws j 0) w) v (get_or ms j 0)

  unfoldable pub marked_to : ℕ → List ℕ
  marked_to j = filled mark_at ms j

  marked-none : ms ≡ marked_to 0
  unfolding marked_to
  marked-none = filled_none mark_at ms

  -- a place of the tag is marked; one of another tag is as it was
  pub marked-here : (j : ℕ) (e : List ℕ) → j < length ms → get_or ws j 0 ≡ w → e ≡ marked_to j → set e j v ≡ marked_to (j + 1)
  unfolding marked_to
  marked-here j e h t q = filled_more mark_at ms j e v h (sym (rw (eq-eqb (get_or ws j 0) w t))) q

  pub marked_pass : (j : ℕ) → j < length ms → (get_or ws j 0 ≡ w → ⊥) → marked_to j ≡ marked_to (j + 1)
  unfolding marked_to filled tab
  marked_pass j h n =
      rw (add-one, drop-cons ms j 0 h, ne_eqb (get_or ws j 0) w n) (sym (append_snoc (tab mark_at j) (get_or ms j 0) (drop (suc j) ms)))

  marked_skip : (d j : ℕ) → j + d ≤ length ms → ((i : ℕ) → i < d → get_or ws (j + i) 0 ≡ w → ⊥) → marked_to j ≡ marked_to (j + d)
  marked_skip zero j h n = let e : j + 0 ≡ j = omega arith in rw e
  marked_skip (suc d) j h n =
      let e : j + suc d ≡ j + 1 + d = omega arith in
      let z : j + 0 ≡ j = omega arith in
      rw e
      (marked_pass j (omega arith) (rw z at (n 0 (omega arith)))
      ∙ marked_skip d (j + 1) (omega arith) (λ i l. let f : j + 1 + i ≡ j + suc i = omega arith in rw f (n (suc i) (omega arith))))

  -- before its first place it stands nowhere
  pub marks_begin : (j : ℕ) → j ≡ place_of w ws → length ws ≡ length ms → ms ≡ marked_to j
  marks_begin j q n =
      let m = place_most w ws in
      rw q
      (marked-none
      ∙ rw zero-add at (marked_skip (place_of w ws) 0 (rw zero-add (omega arith)) (λ i l. rw zero-add (place-first w ws i l))))

  pub marks_end : (j : ℕ) (e : List ℕ) → j ≡ length ms → e ≡ marked_to j → e ≡ marked ws w v ms
  unfolding marked_to marked
  marks_end j e h q = filled-all mark_at ms (length ms) j e h refl q

pub mark_some : (ms : List ℕ) (j : ℕ) → every is_mark ms ≡ true → j < length ms → 1 ≤ get_or ms j 0
mark_some ms j q h =
    let k = eqb-false (get_or ms j 0) 0 (not-true (eqb (get_or ms j 0) 0) (every-place 0 is_mark ms j h q)) in
    omega arith

-- ---- the numbers that marks stand for
module _ (ms l : List ℕ) where
  unfoldable pub numbers_to : ℕ → List ℕ
  numbers_to j = filled (λ i. get_or ms i 0 - 1) l j

  pub numbers-none : l ≡ numbers_to 0
  unfolding numbers_to
  numbers-none = filled_none (λ i. get_or ms i 0 - 1) l

  pub numbers_more : (j : ℕ) (e : List ℕ) (x : ℕ) → j < length l → x ≡ get_or ms j 0 - 1 → e ≡ numbers_to j
      → set e j x ≡ numbers_to (j + 1)
  unfolding numbers_to
  numbers_more j e x h k q = filled_more (λ i. get_or ms i 0 - 1) l j e x h k q

  pub numbers-all : (j : ℕ) (e : List ℕ) → j ≡ length ms → length l ≡ length ms → e ≡ numbers_to j → e ≡ numbers_of ms
  unfolding numbers_to numbers_of
  numbers-all j e h k q = filled-all (λ i. get_or ms i 0 - 1) l (length ms) j e h k q

-- ---- two rows of them, one of each in turn
module _ (xs ys l : List ℕ) where
  unfoldable pub pairs_to : ℕ → List ℕ
  pairs_to t = filled (λ i. in_pair xs ys i - 1) l (2 * t)

  pub pairs_none : l ≡ pairs_to 0
  unfolding pairs_to
  pairs_none = filled_none (λ i. in_pair xs ys i - 1) l

  first_of : (t : ℕ) → in_pair xs ys (2 * t) ≡ get_or xs t 0
  first_of t =
      let e : 2 * t % 2 ≡ 0 = omega arith in
      let h : 2 * t / 2 ≡ t = omega arith in
      rw (e, h)

  second_of : (t : ℕ) → in_pair xs ys (2 * t + 1) ≡ get_or ys t 0
  second_of t =
      let e : (2 * t + 1) % 2 ≡ 1 = omega arith in
      let h : (2 * t + 1) / 2 ≡ t = omega arith in
      rw (e, h)

  pub pairs_more : (t : ℕ) (e : List ℕ) (x y : ℕ) → 2 * t + 1 < length l → x ≡ get_or xs t 0 - 1 → y ≡ get_or ys t 0 - 1
      → e ≡ pairs_to t → set (set e (2 * t) x) (2 * t + 1) y ≡ pairs_to (t + 1)
  unfolding pairs_to
  pairs_more t e x y h p q k =
      let n : 2 * t + 1 + 1 ≡ 2 * (t + 1) = omega arith in
      rw n at
      (filled_more (λ i. in_pair xs ys i - 1) l (2 * t + 1) (set e (2 * t) x) y h (q ∙ ap (λ (m : ℕ). m - 1) (sym (second_of t)))
      (filled_more (λ i. in_pair xs ys i - 1) l (2 * t) e x (omega arith) (p ∙ ap (λ (m : ℕ). m - 1) (sym (first_of t))) k))

  pub pairs_all : (t : ℕ) (e : List ℕ) → t ≡ length xs → length l ≡ 2 * length xs → e ≡ pairs_to t → e ≡ pairs_of xs ys
  unfolding pairs_to pairs_of
  pairs_all t e h k q = filled-all (λ i. in_pair xs ys i - 1) l (2 * length xs) (2 * t) e (ap (λ (m : ℕ). 2 * m) h) k q

-- ---- what taking a record leaves: ts are the tags of its kind, and begin at place a of what is kept
length_marked : (ws : List ℕ) (w v : ℕ) (ms : List ℕ) → length (marked ws w v ms) ≡ length ms
unfolding marked
length_marked ws w v ms = length-tab (λ j. cond (eqb (get_or ws j 0) w) v (get_or ms j 0)) (length ms)

module _ (l : Label) (tags : List ℕ) (r : Assignment) (marks ts : List ℕ) (a : ℕ) (ready : MarkReady l tags r marks)
    (s : a ≡ start_of r.kind) (t : ts ≡ kept_of tags l r.kind) where
  as_many : length ts ≡ entries_of l r.kind
  as_many = ap length t ∙ kept-long tags l ready.tags_long ready.carried r.kind

  pub marks_in : a + length ts ≤ length marks
  marks_in = omega (arith, as_many, stretch_in marks l ready.marks-long ready.carried r.kind)

  -- the marks of its kind, as they are lent
  pub lent-marks : take (a + length ts - a) (drop a marks) ≡ kept_of marks l r.kind
  lent-marks = kept-lent marks l r.kind a (length ts) s as_many

  pub lent-long : length ts ≡ length (take (a + length ts - a) (drop a marks))
  lent-long = as_many ∙ sym (ap length lent-marks ∙ kept-long marks l ready.marks-long ready.carried r.kind)

  -- its tag was not found
  pub marked-none_such : (after : List ℕ) → position (λ x. eqb x r.tag) ts ≡ None → Marked l tags r marks false after
  unfolding in_file
  marked-none_such after e = record {
    told = rw (of_kept tags l r.kind, ← t, found_none r.tag ts e);
    left = λ q. absurd (false≢true q);
  }

  module _ (p : ℕ) (f : position (λ x. eqb x r.tag) ts ≡ Some p) where
    is_in_lem : in_file (kept_tags tags l) r ≡ true
    unfolding in_file
    is_in_lem = rw (of_kept tags l r.kind, ← t) (found r.tag ts p f).1

    at_place : get_or (kept_of marks l r.kind) (place_of r.tag (kept_of tags l r.kind)) 0
        ≡ get_or (take (a + length ts - a) (drop a marks)) p 0
    at_place = rw (← t, ← (found r.tag ts p f).0, lent-marks)

    pub marked-before : (after : List ℕ) → (get_or (take (a + length ts - a) (drop a marks)) p 0 ≡ 0 → ⊥)
        → Marked l tags r marks false after
    marked-before after m = record {
      told = rw (is_in_lem, at_place) (sym (ne_eqb (get_or (take (a + length ts - a) (drop a marks)) p 0) 0 m));
      left = λ q. absurd (false≢true q);
    }

    back : (part : List ℕ) → part ≡ marked (kept_of tags l r.kind) r.tag (suc r.number) (kept_of marks l r.kind)
        → take a marks ++ (part ++ drop (a + length ts - a) (drop a marks))
        ≡ splice marks (start_of r.kind) (marked (kept_of tags l r.kind) r.tag (suc r.number) (kept_of marks l r.kind))
    back part q =
        let k = kept-long marks l ready.marks-long ready.carried r.kind in
        let m = length_marked (kept_of tags l r.kind) r.tag (suc r.number) (kept_of marks l r.kind) in
        let z = ap length q in
        rw (← q, ← s) (lent-whole marks a (length ts) part (omega (arith, marks_in)) (omega (arith, as_many)))

    -- the part that was lent came back marked
    pub marked_now : (part : List ℕ) → get_or (take (a + length ts - a) (drop a marks)) p 0 ≡ 0
        → part ≡ marked ts r.tag (r.number + 1) (take (a + length ts - a) (drop a marks))
        → Marked l tags r marks true (take a marks ++ (part ++ drop (a + length ts - a) (drop a marks)))
    marked_now part m q = record {
      told = rw (is_in_lem, at_place) (sym (eq-eqb (get_or (take (a + length ts - a) (drop a marks)) p 0) 0 m));
      left = λ _. back part (q ∙ rw (lent-marks, t, add-one r.number));
    }
