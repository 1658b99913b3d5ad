-- The relation between a book, a file and lists: a tag is given one number at most; what the definition takes is given, where no
-- two records are for one tag; and what is given, the definition takes.
use Prim.Native.Nat.{ℕ, ◌+◌, ◌*◌, ◌/◌, ◌%◌, ◌<◌}
use mathlib.Core.Path.{◌≡◌, sym, ap, ◌∙◌}
use mathlib.Core.Bool.{true, not, false≢true}
use mathlib.Core.List.{List}
use native.Mathlib.Omega.{arith}
use lib.ListN.{length, get_or}
use lib.Seq.{ext_get_or}
use lib.Dec.{eqb}
use borrow.Author.Tests.{ltb-true, ltb-false, eqb-true, eq-eqb, not-true, not-false}
use Rattle.word.specs.Lists.{every_two}
use Rattle.word.proofs.Cases.{by-test, by-eq, by-lt, and_left, and_right}
use Rattle.word.proofs.First.{first-before, first_fails}
use Rattle.word.proofs.Each.{says_two}
use Rattle.book.specs.Assign.{rank, is_for, apart_from, no_assignment, record_for, is_given, number_for}
use Rattle.book.specs.Allows.{Gives}
use Rattle.book.specs.Promises.{OnlyLists}
use Rattle.book.specs.declared.Assignment.{Assignment}
use Rattle.book.specs.declared.Kind.{Kind}
use Rattle.book.proofs.Taking.{rank_same}

-- ---- a record that is for a tag
module _ (k : Kind) (w : ℕ) (r : Assignment) where
  pub for_kind : is_for k w r ≡ true → r.kind ≡ k
  unfolding is_for
  for_kind q =
      rank_same r.kind k (eqb-true (rank r.kind) (rank k) (and_left (eqb (rank r.kind) (rank k)) (eqb r.tag w) q))

  pub for_tag : is_for k w r ≡ true → r.tag ≡ w
  unfolding is_for
  for_tag q = eqb-true r.tag w (and_right (eqb (rank r.kind) (rank k)) (eqb r.tag w) q)

  pub is_for_lem : r.kind ≡ k → r.tag ≡ w → is_for k w r ≡ true
  unfolding is_for
  is_for_lem e f = rw (eq-eqb (rank r.kind) (rank k) (ap rank e), eq-eqb r.tag w f)

-- ---- a tag is given one number
module _ (rs : List Assignment) (k : Kind) (w : ℕ) where
  pub gives_same : (n m : ℕ) → Gives rs k w n → Gives rs k w m → n ≡ m
  gives_same n m g h =
      let e : h.place ≡ g.place =
      g.alone h.place h.there (ap (λ (r : Assignment). r.kind) h.says) (ap (λ (r : Assignment). r.tag) h.says) in
      ap (λ (r : Assignment). r.number) (sym g.says ∙ ap (λ (i : ℕ). get_or rs i no_assignment) (sym e) ∙ h.says)

  -- what is given is given by some record
  pub gives-given : (n : ℕ) → Gives rs k w n → is_given rs k w ≡ true
  unfolding is_given record_for
  gives-given n g = by-test (is_given rs k w)
      (λ q. q)
      (λ q. let h = ltb-false (record_for rs k w) (length rs) q in
      let z = first-before (λ i. not (is_for k w (get_or rs i no_assignment))) (length rs) g.place (omega (arith, g.there)) in
      let u = is_for_lem k w (get_or rs g.place no_assignment) (ap (λ (r : Assignment). r.kind) g.says)
      (ap (λ (r : Assignment). r.tag) g.says) in
      absurd (false≢true (sym (not-true (is_for k w (get_or rs g.place no_assignment)) z) ∙ u)))

  -- and where no two records are for one tag, the first that is for it gives the number
  module _ (once : every_two apart_from rs ≡ true) (q : is_given rs k w ≡ true) where
    there : record_for rs k w < length rs
    unfolding is_given
    there = ltb-true (record_for rs k w) (length rs) q

    first_is : is_for k w (get_or rs (record_for rs k w) no_assignment) ≡ true
    unfolding record_for
    first_is = not-false (is_for k w (get_or rs (record_for rs k w) no_assignment))
        (first_fails (λ i. not (is_for k w (get_or rs i no_assignment))) (length rs) there)

    apart-at : (i j : ℕ) → i < j → j < length rs → apart_from (get_or rs i no_assignment) (get_or rs j no_assignment) ≡ true
    apart-at =
        let s = says_two no_assignment apart_from (λ x y. apart_from x y ≡ true) (λ x y. record { fact = λ e. e; test = λ e. e }) rs in
        s.fact once

    -- two different records are not both for it
    clash : (i j : ℕ) → i < j → j < length rs → is_for k w (get_or rs i no_assignment) ≡ true
        → is_for k w (get_or rs j no_assignment) ≡ true → ⊥
    unfolding apart_from
    clash i j h l a b =
        let z = not-true (is_for (get_or rs i no_assignment).kind (get_or rs i no_assignment).tag (get_or rs j no_assignment))
        (apart-at i j h l) in
        let y = rw (for_kind k w (get_or rs i no_assignment) a, for_tag k w (get_or rs i no_assignment) a) at z in
        false≢true (sym y ∙ b)

    only_one : (i : ℕ) → i < length rs → (get_or rs i no_assignment).kind ≡ k → (get_or rs i no_assignment).tag ≡ w → i ≡ record_for rs k w
    only_one i h e f =
        let u = is_for_lem k w (get_or rs i no_assignment) e f in
        by-lt i (record_for rs k w)
        (λ l. absurd (clash i (record_for rs k w) l there u first_is))
        (λ l. by-lt (record_for rs k w) i (λ m. absurd (clash (record_for rs k w) i m h first_is u)) (λ m. omega arith))

    says_it : get_or rs (record_for rs k w) no_assignment ≡ record { kind = k; tag = w; number = number_for rs k w }
    unfolding number_for
    says_it =
        let r = get_or rs (record_for rs k w) no_assignment in
        whole (get_or rs (record_for rs k w) no_assignment) (for_kind k w (get_or rs (record_for rs k w) no_assignment) first_is)
        (for_tag k w (get_or rs (record_for rs k w) no_assignment) first_is)
      where
        whole : (r : Assignment) → r.kind ≡ k → r.tag ≡ w → r ≡ record { kind = k; tag = w; number = r.number }
        whole r e f = rw (sym e, sym f)

    pub given-gives : Gives rs k w (number_for rs k w)
    given-gives = record { place = record_for rs k w; there = there; says = says_it; alone = only_one }

-- ---- the lists
even_or_odd : (i : ℕ) {X : Type 0} → (i ≡ 2 * (i / 2) → X) → (i ≡ 2 * (i / 2) + 1 → X) → X
even_or_odd i f g = by-eq (i % 2) 0 (λ e. f (omega arith)) (λ n. g (omega arith))

pub only_lists : OnlyLists
only_lists rs blocks l io tables io' tables' a b = (
  ext_get_or 0 io io' (a.io-long ∙ sym b.io-long)
      (λ i h. gives_same rs _ _ (get_or io i 0) (get_or io' i 0) (a.channel i (omega (arith, a.io-long)))
      (b.channel i (omega (arith, a.io-long)))),
  ext_get_or 0 tables tables' (a.tables-long ∙ sym b.tables-long)
      (λ i h. let n = a.tables-long in
      even_or_odd i
      (λ e. ap (λ (m : ℕ). get_or tables m 0) e
      ∙ gives_same rs _ _ (get_or tables (2 * (i / 2)) 0) (get_or tables' (2 * (i / 2)) 0) (a.address (i / 2) (omega arith))
      (b.address (i / 2) (omega arith))
      ∙ ap (λ (m : ℕ). get_or tables' m 0) (sym e))
      (λ e. ap (λ (m : ℕ). get_or tables m 0) e
      ∙ gives_same rs _ _ (get_or tables (2 * (i / 2) + 1) 0) (get_or tables' (2 * (i / 2) + 1) 0) (a.len (i / 2) (omega arith))
      (b.len (i / 2) (omega arith))
      ∙ ap (λ (m : ℕ). get_or tables' m 0) (sym e))),
)
