-- What the marks say once all records are taken: a mark is there where a record is for the tag, and stands for its number. So the
-- marks decide 27, and give the lists.
use Prim.Native.Nat.{ℕ, zero, suc, ◌-◌, ◌*◌, ◌/◌, ◌%◌, ◌<◌}
use mathlib.Core.Path.{◌≡◌, refl, sym, ap, ◌∙◌}
use mathlib.Core.Bool.{Bool, true, false, not, false≢true}
use mathlib.Core.List.{List}
use native.Mathlib.Omega.{arith}
use lib.ListN.{length, get_or, get_or-eq_default}
use lib.Dec.{eqb}
use borrow.Author.Tests.{ltb-true, ltb-false, ne_eqb, not-true, not-false}
use Rattle.word.specs.Lists.{every}
use Rattle.word.proofs.Cases.{by-test, by-lt}
use Rattle.word.proofs.Every.{every-place, every_by}
use Rattle.word.proofs.First.{AllBelow, first_most, first-before, first_fails}
use Rattle.label.specs.Label.{Carried}
use Rattle.label.specs.declared.Label.{Label}
use Rattle.book.specs.Tags.{entries_of}
use Rattle.book.specs.Assign.{is_for, no_assignment, record_for, is_given, all_given, number_for, entry_number, io_list}
use Rattle.book.specs.Assign.{kind_in_pair, table_list}
use Rattle.book.specs.HowKept.{kept_words, kept_of, kept_tags, mark_to, marks_to, is_mark, all_marked, numbers_of, in_pair}
use Rattle.book.specs.HowKept.{pairs_of, Marks}
use Rattle.book.specs.declared.Assignment.{Assignment}
use Rattle.book.specs.declared.Kind.{Kind}
use Rattle.book.specs.declared.Kind.TheVariants.{Address, Length, Peripheral}
use Rattle.book.proofs.Kept.{kept-long}
use Rattle.book.proofs.Taking.{tab-same, marks-long, marks-at, mark_stays, mark-first}

-- ---- a mark, by the first record that is for the tag
module _ (rs : List Assignment) (k : Kind) (w : ℕ) where
  abbrev at : ℕ → Assignment
  at i = get_or rs i no_assignment

  abbrev not_for : ℕ → Bool
  not_for i = not (is_for k w (at i))

  none-marked : (i : ℕ) → AllBelow not_for i → mark_to rs k w i ≡ 0
  unfolding mark_to
  none-marked zero a = refl
  none-marked (suc i) a =
      mark_stays rs k w i (not-true (is_for k w (at i)) (a i (omega arith))) ∙ none-marked i (λ j h. a j (omega arith))

  first-marked : (p i : ℕ) → p < i → AllBelow not_for p → is_for k w (at p) ≡ true → mark_to rs k w i ≡ suc (at p).number
  unfolding mark_to
  first-marked p zero h a u = absurd (omega arith)
  first-marked p (suc i) h a u = by-lt p i
      (λ l. rw (first-marked p i l a u, ne_eqb (suc (at p).number) 0 (λ e. omega arith)))
      (λ l. let e : p ≡ i = omega arith in
      rw e (mark-first rs k w i (none-marked i (rw e at a)) (rw e at u)))

  -- where there is one, and where there is none
  pub given-mark : is_given rs k w ≡ true → mark_to rs k w (length rs) ≡ suc (number_for rs k w)
  unfolding is_given record_for number_for
  given-mark g =
      let h = ltb-true (record_for rs k w) (length rs) g in
      first-marked (record_for rs k w) (length rs) h (first-before not_for (length rs))
      (not-false (is_for k w (at (record_for rs k w))) (first_fails not_for (length rs) h))

  not-given : is_given rs k w ≡ false → record_for rs k w ≡ length rs
  unfolding is_given record_for
  not-given g =
      let h = ltb-false (record_for rs k w) (length rs) g in
      let m = first_most not_for (length rs) in
      omega arith

  pub absent_mark : is_given rs k w ≡ false → mark_to rs k w (length rs) ≡ 0
  unfolding record_for
  absent_mark g = none-marked (length rs) (rw (not-given g) at (first-before not_for (length rs)))

  pub mark-given : is_mark (mark_to rs k w (length rs)) ≡ is_given rs k w
  mark-given = by-test (is_given rs k w)
      (λ g. rw (given-mark g, g, ne_eqb (suc (number_for rs k w)) 0 (λ e. omega arith)))
      (λ g. rw (absent_mark g, g))

  absent_number : is_given rs k w ≡ false → number_for rs k w ≡ 0
  unfolding number_for
  absent_number g =
      ap (λ (i : ℕ). (get_or rs i no_assignment).number) (not-given g)
      ∙ ap (λ (r : Assignment). r.number) (get_or-eq_default rs no_assignment {n = length rs} (omega arith))

  pub mark_number : mark_to rs k w (length rs) - 1 ≡ number_for rs k w
  mark_number = by-test (is_given rs k w)
      (λ g. let e = given-mark g in omega arith)
      (λ g. let e = absent_mark g in let z = absent_number g in omega arith)

-- ---- all marks of a kind
same_test : (b c : Bool) → (b ≡ true → c ≡ true) → (c ≡ true → b ≡ true) → b ≡ c
same_test b c f g = by-test b
    (λ p. p ∙ sym (f p))
    (λ p. by-test c (λ q. absurd (false≢true (sym p ∙ g q))) (λ q. p ∙ sym q))

every_given : (rs : List Assignment) (k : Kind) (ws : List ℕ) → every is_mark (marks_to rs k ws (length rs)) ≡ every (is_given rs k) ws
every_given rs k ws =
    let n = marks-long rs k ws (length rs) in
    same_test (every is_mark (marks_to rs k ws (length rs))) (every (is_given rs k) ws)
    (λ q. every_by 0 (is_given rs k) ws (λ j h.
    sym (mark-given rs k (get_or ws j 0)) ∙ ap is_mark (sym (marks-at rs k ws (length rs) j h))
    ∙ every-place 0 is_mark (marks_to rs k ws (length rs)) j (omega arith) q))
    (λ q. every_by 0 is_mark (marks_to rs k ws (length rs)) (λ j h.
    ap is_mark (marks-at rs k ws (length rs) j (omega arith)) ∙ mark-given rs k (get_or ws j 0)
    ∙ every-place 0 (is_given rs k) ws j (omega arith) q))

-- ---- all kinds
module _ (rs : List Assignment) (l : Label) (tags marks : List ℕ) (long : length tags ≡ kept_words) (c : Carried l)
    (m : Marks rs l tags marks (length rs)) where
  kind-given : (k : Kind) → every is_mark (kept_of marks l k) ≡ every (is_given rs k) (kept_of tags l k)
  kind-given k = ap (every is_mark) (m.each k) ∙ every_given rs k (kept_of tags l k)

  pub all-given : all_marked marks l ≡ all_given rs (kept_tags tags l)
  unfolding all_marked all_given
  all-given = rw (kind-given Peripheral, kind-given Address, kind-given Length)

  -- the number at place j
  at-kind : (k : Kind) (j : ℕ) → j < entries_of l k → get_or (kept_of marks l k) j 0 - 1 ≡ number_for rs k (get_or (kept_of tags l k) j 0)
  at-kind k j h =
      let n = kept-long tags l long c k in
      ap (λ (ms : List ℕ). get_or ms j 0 - 1) (m.each k)
      ∙ ap (λ (x : ℕ). x - 1) (marks-at rs k (kept_of tags l k) (length rs) j (omega arith))
      ∙ mark_number rs k (get_or (kept_of tags l k) j 0)

  pub io-numbers : numbers_of (kept_of marks l Peripheral) ≡ io_list rs (kept_tags tags l)
  unfolding numbers_of io_list
  io-numbers =
      let a = kept-long marks l m.long c Peripheral in
      let b = kept-long tags l long c Peripheral in
      rw (a, b) (tab-same _ _ (entries_of l Peripheral) (λ j h. at-kind Peripheral j h))

  in_pair_lem : (i : ℕ) → i < 2 * l.tables
      → in_pair (kept_of marks l Address) (kept_of marks l Length) i - 1 ≡ entry_number rs (kept_tags tags l) (kind_in_pair i) (i / 2)
  in_pair_lem i h = by-test (eqb (i % 2) 0)
      (λ e. rw e (at-kind Address (i / 2) (omega arith)))
      (λ e. rw e (at-kind Length (i / 2) (omega arith)))

  pub table-numbers : pairs_of (kept_of marks l Address) (kept_of marks l Length) ≡ table_list rs (kept_tags tags l)
  unfolding pairs_of table_list
  table-numbers =
      let a = kept-long marks l m.long c Address in
      let b = kept-long tags l long c Address in
      rw (a, b) (tab-same _ _ (2 * l.tables) in_pair_lem)
