-- The ranks that are kept, and that kept tables are read as they were lent.
use Rattle.std.proofs.Common.{◌≡◌, ℕ, zero, suc, ◌+◌, ◌-◌, ◌^◌, ◌<◌, ◌≤◌, Bool, true, not, ◌&&◌, eqb, ltb, leb, ◌⊎◌, List, [], ◌∷◌, map, length, get_or, set, sym, refl, ap, ◌∙◌, inl, inr, ⊎_elim, add-zero, zero-add, arith, length-set, get_or-set_other, get_or-set_same, ext_get_or, ltb-true, le-ltb, lt-ltb, eq-eqb, ne_eqb}
use mathlib.Core.Bool.{false≢true}
use lib.ListN.{length-map}
use Rattle.word.specs.declared.Area.{Area}
use Rattle.word.specs.Lists.{every}
use Rattle.word.specs.Runs.{Says}
use Rattle.word.proofs.Cases.{by-test, by-eq, and_both, and_left, and_right}
use Rattle.word.proofs.Every.{every-place, every-then}
use Rattle.word.proofs.Says.{says_eq, says_lt, says_le, says_and, says_within}
use Rattle.lists.specs.declared.Table.{Table}
use Rattle.lists.specs.HowKept.{table_number_in, table_of, rank_in, away_in, empty_in, table_by, table_at, tables_in}
use Rattle.lists.specs.Obey.{no_table, table_inside}
use Rattle.lists.specs.HowKeep.{kept_word, has_room, words_from, words_kept, away_rank, ranked, ranks_kept}
use Rattle.sorting.specs.Sorted.{sorted}
use Rattle.lists.specs.HowTaking.{number_below}
use Rattle.lists.proofs.Kept.{tables-length, tables-at}
use Rattle.lists.proofs.Obey.{says_inside}
use Rattle.sorting.proofs.Rising.{length-sorted, every-sorted}
use Rattle.lists.proofs.Exact.{says_room, word_number, word_table}

-- ---- how many there are
pub length_words : (k : ℕ) (ts : List Table) → length (words_from k ts) ≤ length ts
unfolding words_from
length_words k [] = omega arith
length_words k (t ∷ ts) =
    let r = length_words (suc k) ts in
    by-test (eqb t.len 0) (λ q. rw q (omega arith)) (λ q. rw q (omega arith))

pub words_few : (ts : List Table) → length (words_kept ts) ≤ length ts
unfolding words_kept
words_few ts = rw length-sorted (length_words 0 ts)

pub length-ranked : (p : ℕ) (ws rs : List ℕ) → length (ranked p ws rs) ≡ length rs
unfolding ranked
length-ranked p [] rs = refl
length-ranked p (w ∷ ws) rs = length-ranked (suc p) ws (set rs (table_number_in w) p) ∙ length-set rs (table_number_in w) p

pub ranks_length : (ts : List Table) → length (ranks_kept ts) ≡ length ts
unfolding ranks_kept
ranks_length ts = length-ranked 0 (words_kept ts) (map away_rank ts) ∙ length-map ts away_rank

pub away_at : (ts : List Table) (k : ℕ) → k < length ts → get_or (map away_rank ts) k 0 ≡ away_rank (get_or ts k no_table)
away_at [] k h = absurd (omega arith)
away_at (t ∷ ts) zero h = refl
away_at (t ∷ ts) (suc k) h = away_at ts k (omega arith)

-- ---- what stands among the ranks at number k: the place of a word that bears k, or what stood there
unfoldable pub not_of : ℕ → ℕ → Bool
not_of k w = not (eqb (table_number_in w) k)

record RankOf (ws : List ℕ) (p k r : ℕ) : Type 0 where
  pub place : ℕ
  pub within : place < length ws
  pub bears : table_number_in (get_or ws place 0) ≡ k
  pub told : r ≡ p + place

ranked-at : (p : ℕ) (ws rs : List ℕ) (k : ℕ) → k < length rs
    → ((every (not_of k) ws ≡ true) × (get_or (ranked p ws rs) k 0 ≡ get_or rs k 0)) ⊎ RankOf ws p k (get_or (ranked p ws rs) k 0)
unfolding ranked every not_of
ranked-at p [] rs k h = inl (refl, refl)
ranked-at p (w ∷ ws) rs k h =
    ⊎_elim
    (λ a. by-eq (table_number_in w) k
    (λ e. inr (record { place = 0; within = omega arith; bears = e; told = a.1 ∙ rw (e, add-zero) (get_or-set_same rs k p 0 h) }))
    (λ n. inl (rw (ne_eqb (table_number_in w) k n) a.0, a.1 ∙ get_or-set_other rs (table_number_in w) k p 0 (λ e. n (sym e)))))
    (λ b. inr (record { place = suc b.place; within = omega arith; bears = b.bears; told = b.told ∙ omega arith }))
    (ranked-at (suc p) ws (set rs (table_number_in w) p) k (rw length-set h))

-- ---- every kept word is the word of a table that is not empty: that with its number, where the first table's number is k
unfoldable word_in : ℕ → List Table → ℕ → Bool
word_in k ts w =
    leb k (table_number_in w)
    && (eqb w (kept_word (table_number_in w) (get_or ts (table_number_in w - k) no_table)) && ltb 0
    (get_or ts (table_number_in w - k) no_table).len)

says_word : (k : ℕ) (ts : List Table) (w : ℕ)
    → Says (word_in k ts w)
    ((k ≤ table_number_in w)
    × ((w ≡ kept_word (table_number_in w) (get_or ts (table_number_in w - k) no_table)) × (0 < (get_or ts (table_number_in w - k) no_table).len)))
unfolding word_in
says_word k ts w = says_and (says_le _ _) (says_and (says_eq _ _) (says_lt _ _))

word_later : (k : ℕ) (t : Table) (ts : List Table) (w : ℕ) → word_in (suc k) ts w ≡ true → word_in k (t ∷ ts) w ≡ true
word_later k t ts w q =
    let f = (says_word (suc k) ts w).fact q in
    let e : table_number_in w - k ≡ suc (table_number_in w - suc k) = omega (arith, f.0) in
    (says_word k (t ∷ ts) w).test (omega (arith, f.0), (rw e f.1.0, rw e f.1.1))

words_in_lem : (k : ℕ) (ts : List Table) → k + length ts ≤ 2 ^ 20 → every has_room ts ≡ true
    → every (word_in k ts) (words_from k ts) ≡ true
unfolding words_from every
words_in_lem k [] n q = refl
words_in_lem k (t ∷ ts) n q =
    let r = every-then (word_in (suc k) ts) (word_in k (t ∷ ts)) (word_later k t ts) (words_from (suc k) ts)
    (words_in_lem (suc k) ts (omega arith) (and_right (has_room t) _ q)) in
    let e = word_number k t (omega arith) (and_left (has_room t) _ q) in
    let z : k - k ≡ 0 = omega arith in
    by-eq t.len 0
    (λ y. rw (eq-eqb t.len 0 y) r)
    (λ y. rw (ne_eqb t.len 0 y)
    (and_both _ _ ((says_word k (t ∷ ts) (kept_word k t)).test (rw e (omega arith), (rw (e, z) refl, rw (e, z) (omega arith)))) r))

-- and a table that is not empty has its word
pub has_word : (k : ℕ) (ts : List Table) (i : ℕ) → k + length ts ≤ 2 ^ 20 → every has_room ts ≡ true → i < length ts
    → 0 < (get_or ts i no_table).len
    → every (not_of (k + i)) (words_from k ts) ≡ true → ⊥
unfolding words_from every not_of
has_word k [] i n q h l a = omega arith
has_word k (t ∷ ts) zero n q h l a =
    let e = word_number k t (omega arith) (and_left (has_room t) _ q) in
    let b = rw (ne_eqb t.len 0 (λ z. omega arith)) at a in
    let d = and_left (not_of (k + 0) (kept_word k t)) _ b in
    false≢true (sym (rw (e, add-zero, eq-eqb k k refl)) ∙ d)
has_word k (t ∷ ts) (suc i) n q h l a =
    let e : k + suc i ≡ suc k + i = omega arith in
    has_word (suc k) ts i (omega arith) (and_right (has_room t) _ q) (omega arith) l
    (rw e at (by-eq t.len 0
    (λ z. rw (eq-eqb t.len 0 z) at a)
    (λ z. and_right (not_of (k + suc i) (kept_word k t)) _ (rw (ne_eqb t.len 0 z) at a))))

-- the number of every kept word is that of a table
numbers_below : (k : ℕ) (ts : List Table) → k + length ts ≤ 2 ^ 20 → every has_room ts ≡ true
    → every (number_below (k + length ts)) (words_from k ts) ≡ true
unfolding words_from every number_below
numbers_below k [] n q = refl
numbers_below k (t ∷ ts) n q =
    let m : suc k + length ts ≡ k + suc (length ts) = omega arith in
    let r = rw m at (numbers_below (suc k) ts (omega arith) (and_right (has_room t) _ q)) in
    let e = word_number k t (omega arith) (and_left (has_room t) _ q) in
    by-eq t.len 0
    (λ y. rw (eq-eqb t.len 0 y) r)
    (λ y. rw (ne_eqb t.len 0 y)
    (and_both (number_below (k + suc (length ts)) (kept_word k t)) _ (rw e (lt-ltb k (k + suc (length ts)) (omega arith))) r))

pub words_numbered : (ts : List Table) → length ts ≤ 2 ^ 20 → every has_room ts ≡ true
    → every (number_below (length ts)) (words_kept ts) ≡ true
unfolding words_kept
words_numbered ts n q = every-sorted (number_below (length ts)) (words_from 0 ts)
    ∙ rw zero-add at (numbers_below 0 ts (omega arith) q)

pub number_at : (n : ℕ) (ws : List ℕ) (p : ℕ) → p < length ws → every (number_below n) ws ≡ true → table_number_in (get_or ws p 0) < n
unfolding number_below
number_at n ws p h q = ltb-true (table_number_in (get_or ws p 0)) n (every-place 0 (number_below n) ws p h q)

-- ---- the two ways to read
by_word : (area : Area) (ws : List ℕ) (r k : ℕ) → rank_in r < length ws → table_number_in (get_or ws (rank_in r) 0) ≡ k
    → table_by area ws r k ≡ table_of (get_or ws (rank_in r) 0)
unfolding table_by
by_word area ws r k h e = rw (lt-ltb (rank_in r) (length ws) h, eq-eqb (table_number_in (get_or ws (rank_in r) 0)) k e)

abbrev with_length : Table → ℕ → Table
with_length t n = record { at = t.at; len = n }

by_away : (area : Area) (ws : List ℕ) (r k : ℕ) (t : Table) → length ws ≤ rank_in r → away_in r ≡ t.at.0 → t.len ≡ 0
    → table_inside area t ≡ true → table_by area ws r k ≡ t
unfolding table_by empty_in
by_away area ws r k t h e z q =
    let i = (says_inside area t).fact q in
    let w = (says_within t.at.0 0 area.at.0 area.size).test (omega arith, omega arith) in
    rw (le-ltb (rank_in r) (length ws) h, e, w) (ap (with_length t) (sym z))

-- ---- read back
module _ (area : Area) (ts : List Table) (n : length ts ≤ 1024) (m : every has_room ts ≡ true)
    (q : every (table_inside area) ts ≡ true) where
  word_in_lem : (p : ℕ) → p < length (words_kept ts) → word_in 0 ts (get_or (words_kept ts) p 0) ≡ true
  unfolding words_kept
  word_in_lem p i = every-place 0 (word_in 0 ts) (sorted (words_from 0 ts)) p i
      (every-sorted (word_in 0 ts) (words_from 0 ts) ∙ words_in_lem 0 ts (omega arith) m)

  -- a table whose word is kept
  stood : (k r : ℕ) → k < length ts → RankOf (words_kept ts) 0 k r → table_by area (words_kept ts) r k ≡ get_or ts k no_table
  stood k r h s =
      let few = words_few ts in
      let e : rank_in r ≡ s.place = omega (arith, s.told, s.within) in
      let b : table_number_in (get_or (words_kept ts) (rank_in r) 0) ≡ k = rw e s.bears in
      let i : rank_in r < length (words_kept ts) = rw e s.within in
      let w = (says_word 0 ts (get_or (words_kept ts) (rank_in r) 0)).fact (word_in_lem (rank_in r) i) in
      let z : k - 0 ≡ k = omega arith in
      by_word area (words_kept ts) r k i b
      ∙ ap table_of (rw (b, z) at w.1.0)
      ∙ word_table k (get_or ts k no_table) (omega arith) (every-place no_table has_room ts k h m)

  -- a table that has no word
  gone : (k r : ℕ) → k < length ts → every (not_of k) (words_kept ts) ≡ true → r ≡ get_or (map away_rank ts) k 0
      → table_by area (words_kept ts) r k ≡ get_or ts k no_table
  unfolding words_kept away_rank
  gone k r h a e =
      let few = words_few ts in
      let d = e ∙ away_at ts k h in
      let g = (says_room (get_or ts k no_table)).fact (every-place no_table has_room ts k h m) in
      let f : (get_or ts k no_table).len ≡ 0 =
      by-eq (get_or ts k no_table).len 0
      (λ z. z)
      (λ z. absurd (has_word 0 ts k (omega arith) m h (omega arith)
      (rw zero-add (sym (every-sorted (not_of k) (words_from 0 ts)) ∙ a)))) in
      by_away area (words_kept ts) r k (get_or ts k no_table) (omega (arith, d)) (omega (arith, d)) f
      (every-place no_table (table_inside area) ts k h q)

  read_back_lem : (k : ℕ) → k < length ts → table_by area (words_kept ts) (get_or (ranks_kept ts) k 0) k ≡ get_or ts k no_table
  unfolding ranks_kept
  read_back_lem k h =
      ⊎_elim
      (λ a. gone k _ h a.0 a.1)
      (λ s. stood k _ h s)
      (ranked-at 0 (words_kept ts) (map away_rank ts) k (rw length-map h))

  -- what is kept is read as what was lent
  pub copied_back : tables_in area (words_kept ts) (ranks_kept ts) ≡ ts
  unfolding table_at
  copied_back =
      let l = ranks_length ts in
      let e = tables-length area (words_kept ts) (ranks_kept ts) in
      ext_get_or no_table _ ts (e ∙ l)
      (λ i h. tables-at area (words_kept ts) (ranks_kept ts) i no_table (omega arith) ∙ read_back_lem i (omega arith))
