-- The records taken one after another: after each, every tag has the mark that the records so far give it, and no two of them were
-- for one tag.
use Prim.Native.Nat.{ℕ, zero, suc, ◌+◌, ◌≤◌, ◌<◌}
use mathlib.Core.Path.{◌≡◌, refl, sym, ap, ◌∙◌}
use mathlib.Core.Bool.{Bool, true, false, cond, ◌&&◌, false≢true}
use mathlib.Core.List.{List}
use native.Mathlib.Omega.{arith}
use native.Mathlib.Numerals.{add-one}
use lib.ListN.{length, get_or, replicate, get_or-replicate, length-replicate}
use lib.Seq.{ext_get_or}
use lib.Dec.{eqb}
use borrow.Author.Tests.{ltb-true, eqb-true, eqb-false, eq-eqb, ne_eqb}
use Rattle.word.specs.Lists.{every, every_two, tab}
use Rattle.word.proofs.Cases.{by-test, by-eq, by-lt, and_left, and_both}
use Rattle.word.proofs.Every.{every-place, every_by, two_by}
use Rattle.word.proofs.Each.{says_two}
use Rattle.word.proofs.Lists.{length-tab, get_d_tab}
use Rattle.label.specs.Label.{Carried}
use Rattle.label.specs.declared.Label.{Label}
use Rattle.book.specs.Book.{record_count, record_at, assignment_of, assignments_of}
use Rattle.book.specs.Tags.{entries_of}
use Rattle.book.specs.Assign.{rank, is_for, place_of, in_file, apart_from, no_assignment}
use Rattle.book.specs.HowKept.{kept_words, start_of, kept_of, kept_tags, mark_to, marks_to, marked, LookReady, MarkReady}
use Rattle.book.specs.HowKept.{Marked, Marks, Taken}
use Rattle.book.specs.declared.Assignment.{Assignment}
use Rattle.book.specs.declared.Kind.{Kind}
use Rattle.book.specs.declared.Kind.TheVariants.{Address, Length, Peripheral}
use Rattle.book.proofs.Record.{length-assignments, assignment_at, book_record, number_small}
use Rattle.book.proofs.Finding.{place_has}
use Rattle.book.proofs.Kept.{kept-long, kept_at, stretch_in, written-long, written_same, written_other, in_kept}

-- ---- kinds and tests
pub rank_same : (k m : Kind) → rank k ≡ rank m → k ≡ m
rank_same Peripheral Peripheral e = refl
rank_same Peripheral Address e = absurd (omega arith)
rank_same Peripheral Length e = absurd (omega arith)
rank_same Address Peripheral e = absurd (omega arith)
rank_same Address Address e = refl
rank_same Address Length e = absurd (omega arith)
rank_same Length Peripheral e = absurd (omega arith)
rank_same Length Address e = absurd (omega arith)
rank_same Length Length e = refl

eqb_turn : (a b : ℕ) → eqb a b ≡ eqb b a
eqb_turn a b = by-eq a b
    (λ e. eq-eqb a b e ∙ sym (eq-eqb b a (sym e)))
    (λ n. ne_eqb a b n ∙ sym (ne_eqb b a (λ e. n (sym e))))

-- a record is for what another is for, just as the other way round
for_turn : (r s : Assignment) → is_for r.kind r.tag s ≡ is_for s.kind s.tag r
unfolding is_for
for_turn r s = rw (eqb_turn (rank s.kind) (rank r.kind), eqb_turn s.tag r.tag)

-- ---- a list by its places
pub tab-same : {A : Type 0} (f g : ℕ → A) (n : ℕ) → ((j : ℕ) → j < n → f j ≡ g j) → tab f n ≡ tab g n
unfolding tab
tab-same f g zero h = refl
tab-same f g (suc n) h = rw (tab-same f g n (λ j l. h j (omega arith)), h n (omega arith))

-- ---- the mark of a tag
module _ (rs : List Assignment) (k : Kind) (w : ℕ) where
  abbrev at : ℕ → Assignment
  at i = get_or rs i no_assignment

  -- no record yet was for it
  pub unmarked : (i : ℕ) → mark_to rs k w i ≡ 0 → (a : ℕ) → a < i → is_for k w (at a) ≡ false
  unfolding mark_to
  unmarked zero m a h = absurd (omega arith)
  unmarked (suc i) m a h =
      let z = before i m in
      by-lt a i (λ l. unmarked i z.0 a l) (λ l. let e : a ≡ i = omega arith in rw e z.1)
    where
      before : (i : ℕ) → cond (eqb (mark_to rs k w i) 0) (cond (is_for k w (at i)) (suc (at i).number) 0) (mark_to rs k w i) ≡ 0
          → (mark_to rs k w i ≡ 0) × (is_for k w (at i) ≡ false)
      before i m = by-test (eqb (mark_to rs k w i) 0)
          (λ t. (
            eqb-true (mark_to rs k w i) 0 t,
            by-test (is_for k w (at i))
                (λ u. let q = rw (t, u) at m in absurd (omega arith)) (λ u. u),
          ))
          (λ t. absurd (eqb-false (mark_to rs k w i) 0 t (rw t at m)))

  -- some record was
  pub record Some (i : ℕ) : Type 0 where
    pub place : ℕ
    pub before : place < i
    pub is : is_for k w (at place) ≡ true

  pub marked_some : (i : ℕ) → (mark_to rs k w i ≡ 0 → ⊥) → Some i
  unfolding mark_to
  marked_some zero n = absurd (n refl)
  marked_some (suc i) n = by-test (eqb (mark_to rs k w i) 0)
      (λ t. by-test (is_for k w (at i))
      (λ u. record { place = i; before = omega arith; is = u })
      (λ u. absurd (n (rw (t, u)))))
      (λ t. let s = marked_some i (eqb-false (mark_to rs k w i) 0 t) in
      record { place = s.place; before = omega arith; is = s.is })

  -- a record that is not for it changes nothing; the first that is gives the number
  pub mark_stays : (i : ℕ) → is_for k w (at i) ≡ false → mark_to rs k w (suc i) ≡ mark_to rs k w i
  unfolding mark_to
  mark_stays i u = by-test (eqb (mark_to rs k w i) 0)
      (λ t. rw (t, u) (sym (eqb-true (mark_to rs k w i) 0 t)))
      (λ t. rw t)

  pub mark-first : (i : ℕ) → mark_to rs k w i ≡ 0 → is_for k w (at i) ≡ true → mark_to rs k w (suc i) ≡ suc (at i).number
  unfolding mark_to
  mark-first i m u = rw (m, u)

-- ---- the marks of a kind
module _ (rs : List Assignment) (k : Kind) (ws : List ℕ) where
  pub marks-long : (i : ℕ) → length (marks_to rs k ws i) ≡ length ws
  unfolding marks_to
  marks-long i = length-tab (λ j. mark_to rs k (get_or ws j 0) i) (length ws)

  pub marks-at : (i j : ℕ) → j < length ws → get_or (marks_to rs k ws i) j 0 ≡ mark_to rs k (get_or ws j 0) i
  unfolding marks_to
  marks-at i j h = get_d_tab (λ j. mark_to rs k (get_or ws j 0) i) (length ws) j 0 h

  -- record i is of another kind
  pub marks_stay : (i : ℕ) → (rank (get_or rs i no_assignment).kind ≡ rank k → ⊥) → marks_to rs k ws i ≡ marks_to rs k ws (suc i)
  unfolding marks_to is_for
  marks_stay i n = tab-same _ _ (length ws)
      (λ j h. sym (mark_stays rs k (get_or ws j 0) i (rw (ne_eqb (rank (get_or rs i no_assignment).kind) (rank k) n))))

-- ---- a record is for its own tag, of its own kind
for_own : (r : Assignment) (w : ℕ) → w ≡ r.tag → is_for r.kind w r ≡ true
unfolding is_for
for_own r w e = rw (eq-eqb (rank r.kind) (rank r.kind) refl, eq-eqb r.tag w (sym e))

for_other : (r : Assignment) (w : ℕ) → (w ≡ r.tag → ⊥) → is_for r.kind w r ≡ false
unfolding is_for
for_other r w n = rw (eq-eqb (rank r.kind) (rank r.kind) refl, ne_eqb r.tag w (λ e. n (sym e)))

-- so its marks are what the next record makes of those before, where its tag has none
marks_next : (rs : List Assignment) (ws : List ℕ) (i : ℕ)
    → mark_to rs (get_or rs i no_assignment).kind (get_or rs i no_assignment).tag i ≡ 0
    → marked ws (get_or rs i no_assignment).tag (suc (get_or rs i no_assignment).number)
    (marks_to rs (get_or rs i no_assignment).kind ws i) ≡ marks_to rs (get_or rs i no_assignment).kind ws (suc i)
unfolding marked marks_to
marks_next rs ws i m =
    let r = get_or rs i no_assignment in
    let k = r.kind in
    rw (marks-long rs (get_or rs i no_assignment).kind ws i)
    (tab-same _ _ (length ws)
    (λ j h. by-eq (get_or ws j 0) (get_or rs i no_assignment).tag
    (λ e. rw (eq-eqb (get_or ws j 0) (get_or rs i no_assignment).tag e)
    (sym (mark-first rs (get_or rs i no_assignment).kind (get_or ws j 0) i (rw e m)
    (for_own (get_or rs i no_assignment) (get_or ws j 0) e))))
    (λ n. rw (ne_eqb (get_or ws j 0) (get_or rs i no_assignment).tag n)
    (marks-at rs (get_or rs i no_assignment).kind ws i j h
    ∙ sym (mark_stays rs (get_or rs i no_assignment).kind (get_or ws j 0) i (for_other (get_or rs i no_assignment) (get_or ws j 0) n))))))

-- ---- all kinds
module _ (rs : List Assignment) (l : Label) (tags : List ℕ) (long : length tags ≡ kept_words) (c : Carried l) where
  -- before the first record
  pub none-taken : (marks : List ℕ) → length marks ≡ kept_words → marks ≡ replicate kept_words 0 → Marks rs l tags marks 0
  unfolding mark_to
  none-taken marks n e = record {
    long = n;
    each = λ k.
        let o = kept-long marks l n c k in
        let t = kept-long tags l long c k in
        let s = stretch_in marks l n c k in
        ext_get_or 0 (kept_of marks l k) (marks_to rs k (kept_of tags l k) 0) (o ∙ sym (marks-long rs k (kept_of tags l k) 0 ∙ t))
        (λ j h. kept_at marks l n c k j (omega arith)
        ∙ rw e (get_or-replicate kept_words (start_of k + j) 0 0 (omega arith))
        ∙ sym (marks-at rs k (kept_of tags l k) 0 j (omega arith)));
  }

  module _ (marks : List ℕ) (i : ℕ) (m : Marks rs l tags marks i) (f : in_file (kept_tags tags l) (get_or rs i no_assignment) ≡ true)
      (b : Bool) (after : List ℕ) (t : Marked l tags (get_or rs i no_assignment) marks b after) where
    abbrev kind : Kind
    kind = (get_or rs i no_assignment).kind

    abbrev tag : ℕ
    tag = (get_or rs i no_assignment).tag

    abbrev ws : List ℕ
    ws = kept_of tags l kind

    in_stretch : place_of tag ws < length ws
    in_stretch =
        rw (sym (kept-long tags l long c kind)) at
        (ltb-true (place_of tag ws) (entries_of l kind)
        (in_kept tags l (get_or rs i no_assignment) (place_of tag ws) (entries_of l kind) long c refl refl ∙ f))

    told-mark : b ≡ eqb (mark_to rs kind tag i) 0
    told-mark =
        t.told
        ∙ rw f
        (ap (λ (n : ℕ). eqb n 0)
        (ap (λ (ms : List ℕ). get_or ms (place_of tag ws) 0) (m.each kind)
        ∙ marks-at rs kind ws i (place_of tag ws) in_stretch
        ∙ ap (λ (w : ℕ). mark_to rs kind w i) (place_has tag ws in_stretch)))

    pub fresh : b ≡ true → mark_to rs kind tag i ≡ 0
    fresh q = eqb-true (mark_to rs kind tag i) 0 (sym told-mark ∙ q)

    pub not-fresh : b ≡ false → mark_to rs kind tag i ≡ 0 → ⊥
    not-fresh q = eqb-false (mark_to rs kind tag i) 0 (sym told-mark ∙ q)

    abbrev new : List ℕ
    new = marked ws tag (suc (get_or rs i no_assignment).number) (kept_of marks l kind)

    new_is : b ≡ true → new ≡ marks_to rs kind ws (suc i)
    new_is q =
        ap (marked ws tag (suc (get_or rs i no_assignment).number)) (m.each kind) ∙ marks_next rs ws i (fresh q)

    new-long : b ≡ true → length new ≡ entries_of l kind
    new-long q = ap length (new_is q) ∙ marks-long rs kind ws (suc i) ∙ kept-long tags l long c kind

    own : (q : b ≡ true) (k : Kind) → k ≡ kind → kept_of after l k ≡ marks_to rs k (kept_of tags l k) (suc i)
    own q k e =
        rw e
        (ap (λ (a : List ℕ). kept_of a l kind) (t.left q) ∙ written_same marks l m.long c kind new (new-long q) ∙ new_is q)

    other : (q : b ≡ true) (k : Kind) → (rank k ≡ rank kind → ⊥) → kept_of after l k ≡ marks_to rs k (kept_of tags l k) (suc i)
    other q k n =
        ap (λ (a : List ℕ). kept_of a l k) (t.left q) ∙ written_other marks l m.long c kind new (new-long q) k n
        ∙ m.each k ∙ marks_stay rs k (kept_of tags l k) i (λ e. n (sym e))

    pub one_taken : b ≡ true → Marks rs l tags after (i + 1)
    one_taken q = rw add-one (record {
      long = ap length (t.left q) ∙ written-long marks l m.long c kind new (new-long q);
      each = λ k. by-eq (rank k) (rank kind) (λ e. own q k (rank_same k kind e)) (λ n. other q k n);
    })

-- ---- no two for one tag
abbrev pub ApartTo : List Assignment → ℕ → Type 0
ApartTo rs i = (a b : ℕ) → a < b → b < i → apart_from (get_or rs a no_assignment) (get_or rs b no_assignment) ≡ true

pub apart_none : (rs : List Assignment) → ApartTo rs 0
apart_none rs a b h k = absurd (omega arith)

module _ (rs : List Assignment) (i : ℕ) where
  abbrev r : Assignment
  r = get_or rs i no_assignment

  pub apart_more : ApartTo rs i → mark_to rs r.kind r.tag i ≡ 0 → ApartTo rs (i + 1)
  unfolding apart_from
  apart_more p m a b h k = by-lt b i
      (λ l. p a b h l)
      (λ l. let e : b ≡ i = omega arith in
      rw (e, for_turn (get_or rs a no_assignment) (get_or rs i no_assignment), unmarked rs r.kind r.tag i m a (omega arith)))

  -- two that are for one tag
  pub apart_fails : i < length rs → (mark_to rs r.kind r.tag i ≡ 0 → ⊥) → false ≡ every_two apart_from rs
  unfolding apart_from
  apart_fails h n =
      let s = marked_some rs r.kind r.tag i n in
      by-test (every_two apart_from rs)
      (λ q. let z = (says_two no_assignment apart_from (λ x y. apart_from x y ≡ true)
      (λ x y. record { fact = λ e. e; test = λ e. e }) rs
      ).fact q s.place i s.before h in
      let w = rw (for_turn (get_or rs s.place no_assignment) (get_or rs i no_assignment), s.is) at z in
      absurd (false≢true w))
      (λ q. sym q)

pub apart-all : (rs : List Assignment) (n : ℕ) → length rs ≤ n → ApartTo rs n → true ≡ every_two apart_from rs
apart-all rs n h p = sym (two_by no_assignment apart_from rs (λ a b l k. p a b l (omega arith)))

-- ---- a test of all that fails at one place, and the second of two tests that fails
not-every : (f : Assignment → Bool) (rs : List Assignment) (i : ℕ) → i < length rs → f (get_or rs i no_assignment) ≡ false
    → every f rs ≡ false
not-every f rs i h q = by-test (every f rs)
    (λ e. absurd (false≢true (sym q ∙ every-place no_assignment f rs i h e)))
    (λ e. e)

and_second : (a b : Bool) → false ≡ b → false ≡ (a && b)
and_second true b q = q
and_second false b q = refl

-- ---- a turn of the loop: record i of a book was read as r, and taken
pub record TakenTo (rs : List Assignment) (l : Label) (tags marks : List ℕ) (i : ℕ) : Type 0 where
  pub marks-kept : Marks rs l tags marks i
  pub in_to : (a : ℕ) → a < i → in_file (kept_tags tags l) (get_or rs a no_assignment) ≡ true
  pub apart : ApartTo rs i

pub taken_none : (rs : List Assignment) (l : Label) (tags marks : List ℕ) → length tags ≡ kept_words → Carried l
    → marks ≡ replicate kept_words 0 → TakenTo rs l tags marks 0
taken_none rs l tags marks h c e = record {
  marks-kept = none-taken rs l tags h c marks (ap length e ∙ length-replicate {A = ℕ} kept_words 0) e;
  in_to = λ a h. absurd (omega arith);
  apart = apart_none rs;
}

module _ (book : List ℕ) (l : Label) (tags marks : List ℕ) (i : ℕ) (ready : LookReady book l tags)
    (h : i < record_count book) (r : Assignment) (e : r ≡ assignment_of (record_at book i)) where
  abbrev rs : List Assignment
  rs = assignments_of book

  is_at : r ≡ get_or (assignments_of book) i no_assignment
  is_at = e ∙ sym (assignment_at book i h)

  pub take_ready : length marks ≡ kept_words → MarkReady l tags r marks
  take_ready n = record {
    carried = ready.carried;
    tags_long = ready.long;
    marks-long = n;
    small = rw e (number_small (record_at book i) (book_record book i ready.right (omega arith)));
  }

  module _ (b : Bool) (after : List ℕ) (t : Marked l tags r marks b after) (k : TakenTo (assignments_of book) l tags marks i) where
    at_i : Marked l tags (get_or (assignments_of book) i no_assignment) marks b after
    at_i = rw is_at at t

    pub taken_more : b ≡ true → TakenTo (assignments_of book) l tags after (i + 1)
    taken_more q =
        let f = and_left (in_file (kept_tags tags l) (get_or (assignments_of book) i no_assignment)) _ (sym at_i.told ∙ q) in
        record {
          marks-kept = one_taken (assignments_of book) l tags ready.long ready.carried marks i k.marks-kept f b after at_i
              q;
          in_to = λ a m. by-lt a i (λ n. k.in_to a n) (λ n. let z : a ≡ i = omega arith in rw z f);
          apart = apart_more (assignments_of book) i k.apart
              (fresh (assignments_of book) l tags ready.long ready.carried marks i k.marks-kept f b after at_i q);
        }

    -- a record that is for no tag, or the second for one
    stopped : b ≡ false → false ≡ (every (in_file (kept_tags tags l)) (assignments_of book) && every_two apart_from (assignments_of book))
    stopped q = by-test (in_file (kept_tags tags l) (get_or (assignments_of book) i no_assignment))
        (λ f. and_second (every (in_file (kept_tags tags l)) (assignments_of book)) (every_two apart_from (assignments_of book))
        (apart_fails (assignments_of book) i (omega (arith, length-assignments book))
        (not-fresh (assignments_of book) l tags ready.long ready.carried marks i k.marks-kept f b after at_i q)))
        (λ f. rw (not-every (in_file (kept_tags tags l)) (assignments_of book) i (omega (arith, length-assignments book)) f))

    pub taken_stops : b ≡ false → Taken book l tags false after
    taken_stops q = record { told = stopped q; left = λ z. absurd (false≢true z) }

pub taken-all : (book : List ℕ) (l : Label) (tags marks : List ℕ) (i : ℕ) → i ≤ record_count book → record_count book ≤ i
    → TakenTo (assignments_of book) l tags marks i → Taken book l tags true marks
taken-all book l tags marks i h k t =
    let n = length-assignments book in
    let e : i ≡ length (assignments_of book) = omega arith in
    record {
      told = sym (and_both (every (in_file (kept_tags tags l)) (assignments_of book)) (every_two apart_from (assignments_of book))
          (every_by no_assignment (in_file (kept_tags tags l)) (assignments_of book) (λ a m. t.in_to a (omega arith)))
          (sym (apart-all (assignments_of book) i (omega arith) t.apart)));
      left = λ _. rw e at t.marks-kept;
    }
