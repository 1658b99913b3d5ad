-- The loops that keep the ranks: words that are kept rank their tables, and where no table is empty they rank every one.
use Rattle.std.proofs.Common.{◌≡◌, ℕ, zero, suc, ◌+◌, ◌<◌, ◌≤◌, true, ◌⊎◌, List, [], ◌∷◌, map, length, get_or, drop, set, sym, refl, ap, ◌∙◌, inl, inr, ⊎_elim, zero-add, add-one, arith, length-set, drop_of_length-le, drop-cons, get_or-set_other, get_or-set_same, ext_get_or, ltb-true, lt-ltb, eq-eqb, ne_eqb}
use lib.ListN.{length-map}
use lib.Seq.{take-length, set-append_left}
use Rattle.word.specs.Lists.{every, splice}
use Rattle.word.proofs.Cases.{by-eq, by-lt, and_left, and_right}
use Rattle.word.proofs.Every.{every-then}
use Rattle.word.proofs.Lists.{length-splice, get_d_splice_out}
use Rattle.lists.specs.declared.Table.{Table}
use Rattle.lists.specs.HowKept.{table_number_in}
use Rattle.lists.specs.Obey.{no_table}
use Rattle.lists.specs.HowKeep.{words_from, words_kept, away_rank, ranked, ranks_kept, Ranking}
use Rattle.lists.specs.HowTaking.{number_below}
use Rattle.sorting.proofs.Rising.{length-sorted, every-sorted}
use Rattle.lists.proofs.Ranks.{length_words, length-ranked, not_of, has_word, words_numbered}

-- ---- the loop over the words
module _ (ws rs : List ℕ) (p : ℕ) (b : List ℕ) where
  pub ranked_more : p < length ws → b ≡ ranked p (drop p ws) rs
      → b ≡ ranked (p + 1) (drop (p + 1) ws) (set rs (table_number_in (get_or ws p 0)) p)
  unfolding ranked
  ranked_more h q = q ∙ rw (drop-cons ws p 0 h, add-one p)

  pub ranked_end : length ws ≤ p → b ≡ ranked p (drop p ws) rs → rs ≡ b
  unfolding ranked
  ranked_end h q = sym (q ∙ rw (drop_of_length-le ws h))

-- ---- ranks at the start of a longer stretch
set_start : (l s : List ℕ) (i v : ℕ) → i < length s → set (splice l 0 s) i v ≡ splice l 0 (set s i v)
unfolding splice
set_start l s i v h =
    rw (take-length s, set-append_left s (drop (0 + length s) l) i v h, take-length (set s i v), length-set s i v)

pub ranked_start : (l : List ℕ) (p : ℕ) (ws s : List ℕ) → every (number_below (length s)) ws ≡ true
    → ranked p ws (splice l 0 s) ≡ splice l 0 (ranked p ws s)
unfolding ranked every number_below
ranked_start l p [] s q = refl
ranked_start l p (w ∷ ws) s q =
    let h = ltb-true (table_number_in w) (length s) (and_left (number_below (length s) w) _ q) in
    let e = length-set s (table_number_in w) p in
    rw (set_start l s (table_number_in w) p h)
    (ranked_start l (suc p) ws (set s (table_number_in w) p) (rw e (and_right (number_below (length s) w) _ q)))

-- ---- the ranks of kept words
module _ (ts : List Table) (words rs : List ℕ) (r : Ranking ts words rs) where
  ranking_numbered : every (number_below (length ts)) words ≡ true
  ranking_numbered = rw r.kept (words_numbered ts (omega (arith, r.few)) r.room)

  pub ranking_below : (n : ℕ) → length ts ≤ n → every (number_below n) words ≡ true
  unfolding number_below
  ranking_below n h =
      every-then (number_below (length ts)) (number_below n)
      (λ w q. let l = ltb-true (table_number_in w) (length ts) q in lt-ltb (table_number_in w) n (omega arith))
      words ranking_numbered

  pub ranking_kept : ranked 0 words (splice rs 0 (map away_rank ts)) ≡ splice rs 0 (ranks_kept ts)
  unfolding ranks_kept
  ranking_kept =
      let e = length-map ts away_rank in
      ranked_start rs 0 words (map away_rank ts) (rw e ranking_numbered) ∙ rw r.kept

-- ---- where no table is empty, the words rank every one, whatever stood among the ranks
-- as many words as tables: none is empty
all_full : (k : ℕ) (ts : List Table) → length (words_from k ts) ≡ length ts → (i : ℕ) → i < length ts → 0 < (get_or ts i no_table).len
unfolding words_from
all_full k [] e i h = absurd (omega arith)
all_full k (t ∷ ts) e zero h =
    by-eq t.len 0
    (λ z. let l = length_words (suc k) ts in
    let f = rw (eq-eqb t.len 0 z) at e in
    absurd (omega arith))
    (λ z. omega arith)
all_full k (t ∷ ts) e (suc i) h =
    all_full (suc k) ts
    (by-eq t.len 0
    (λ z. let l = length_words (suc k) ts in
    let f = rw (eq-eqb t.len 0 z) at e in
    absurd (omega arith))
    (λ z. let f = rw (ne_eqb t.len 0 z) at e in omega arith))
    i (omega arith)

-- at number k two lists of ranks become the same, if they were or if a word bears k
ranked-same : (p : ℕ) (ws rs us : List ℕ) (k : ℕ) → k < length rs → k < length us
    → (get_or rs k 0 ≡ get_or us k 0) ⊎ (every (not_of k) ws ≡ true → ⊥) → get_or (ranked p ws rs) k 0 ≡ get_or (ranked p ws us) k 0
unfolding ranked every not_of
ranked-same p [] rs us k h l d = ⊎_elim (λ e. e) (λ f. absurd (f refl)) d
ranked-same p (w ∷ ws) rs us k h l d =
    ranked-same (suc p) ws (set rs (table_number_in w) p) (set us (table_number_in w) p) k (rw length-set h) (rw length-set l)
    (by-eq (table_number_in w) k
    (λ e. inl (rw e (get_or-set_same rs k p 0 h ∙ sym (get_or-set_same us k p 0 l))))
    (λ n. ⊎_elim
    (λ e. inl (get_or-set_other rs (table_number_in w) k p 0 (λ x. n (sym x)) ∙ e
    ∙ sym (get_or-set_other us (table_number_in w) k p 0 (λ x. n (sym x)))))
    (λ f. inr (λ q. f (rw (ne_eqb (table_number_in w) k n) q))) d))

module _ (ts : List Table) (words rs : List ℕ) (r : Ranking ts words rs) (e : length words ≡ length ts) where
  bears_all : (i : ℕ) → i < length ts → every (not_of i) words ≡ true → ⊥
  unfolding words_kept
  bears_all i h q =
      let k = r.kept in
      let n : length (words_from 0 ts) ≡ length ts = sym (length-sorted (words_from 0 ts)) ∙ sym (ap length k) ∙ e in
      has_word 0 ts i (omega (arith, r.few)) r.room h (all_full 0 ts n i h)
      (rw zero-add (sym (every-sorted (not_of i) (words_from 0 ts)) ∙ rw k at q))

  pub ranking_full : ranked 0 words rs ≡ splice rs 0 (ranks_kept ts)
  ranking_full =
      let m = length-map ts away_rank in
      let s = length-splice rs 0 (map away_rank ts) (omega (arith, r.ranks)) in
      ext_get_or 0 _ _ (length-ranked 0 words rs ∙ sym s ∙ sym (length-ranked 0 words (splice rs 0 (map away_rank ts))))
      (λ i h. let g = length-ranked 0 words rs in
      ranked-same 0 words rs (splice rs 0 (map away_rank ts)) i (omega arith) (omega arith)
      (by-lt i (length ts)
      (λ l. inr (bears_all i l))
      (λ l. inl (sym (get_d_splice_out rs 0 (map away_rank ts) i (omega (arith, r.ranks)) (λ x y. omega arith))))))
      ∙ ranking_kept ts words rs r
