-- I/O numbers that are kept are read as they were lent.
use Rattle.std.proofs.Common.{◌≡◌, ℕ, ◌+◌, ◌*◌, ◌/◌, ◌%◌, ◌^◌, ◌<◌, ◌≤◌, true, List, length, get_or, replicate, sym, ap, ◌∙◌, zero-add, arith, ext_get_or, ltb-true}
use lib.ListN.{length-replicate, get_or-replicate, get_or-eq_default}
use Rattle.word.specs.Word.{part}
use Rattle.word.specs.Lists.{every, splice}
use Rattle.word.proofs.Cases.{by-eq, by-lt}
use Rattle.word.proofs.Every.{every-place}
use Rattle.word.proofs.Lists.{length-tab, get_d_tab, get_d_range, range-splice-same, get_d_splice_out}
use Rattle.lists.specs.HowKept.{number_in, numbers_in}
use Rattle.lists.specs.Obey.{is_io_number}
use Rattle.lists.specs.HowKeep.{four_from, fours_kept, numbers_kept}
use Rattle.lists.proofs.Kept.{numbers-length, numbers-at}

pub fours_kept-length : (ios : List ℕ) (n : ℕ) → length (fours_kept ios n) ≡ n
unfolding fours_kept
fours_kept-length ios n = length-tab (four_from ios) n

pub fours_kept-at : (ios : List ℕ) (n i : ℕ) → i < n → get_or (fours_kept ios n) i 0 ≡ four_from ios i
unfolding fours_kept
fours_kept-at ios n i h = get_d_tab (four_from ios) n i 0 h

pub numbers-kept-length : (ios : List ℕ) → length (numbers_kept ios) ≡ (length ios + 3) / 4
unfolding numbers_kept
numbers-kept-length ios = length-tab (four_from ios) ((length ios + 3) / 4)

numbers-kept-at : (ios : List ℕ) (i : ℕ) → i < (length ios + 3) / 4 → get_or (numbers_kept ios) i 0 ≡ four_from ios i
unfolding numbers_kept
numbers-kept-at ios i h = get_d_tab (four_from ios) ((length ios + 3) / 4) i 0 h

-- the four quarters of a word
quarters : (ios : List ℕ) (k : ℕ) → part (16 * (k % 4)) 16 (four_from ios (k / 4)) ≡ get_or ios k 0 % 2 ^ 16
unfolding four_from
quarters ios k =
    by-eq (k % 4) 0
    (λ z. let e : k ≡ 4 * (k / 4) = omega arith in rw z (omega (arith, ap (λ (j : ℕ). get_or ios j 0) e)))
    (λ a. by-eq (k % 4) 1
    (λ z. let e : k ≡ 4 * (k / 4) + 1 = omega arith in rw z (omega (arith, ap (λ (j : ℕ). get_or ios j 0) e)))
    (λ b. by-eq (k % 4) 2
    (λ z. let e : k ≡ 4 * (k / 4) + 2 = omega arith in rw z (omega (arith, ap (λ (j : ℕ). get_or ios j 0) e)))
    (λ d. let z : k % 4 ≡ 3 = omega arith in
    let e : k ≡ 4 * (k / 4) + 3 = omega arith in
    rw z (omega (arith, ap (λ (j : ℕ). get_or ios j 0) e)))))

-- what stands in a stretch whose first words are the kept ones
start_at : (out vs : List ℕ) (i : ℕ) → length vs ≤ length out → i < length vs → get_or (splice out 0 vs) i 0 ≡ get_or vs i 0
start_at out vs i h k =
    let e = get_d_range (splice out 0 vs) 0 (length vs) i k in
    let f = range-splice-same out 0 vs (omega arith) in
    ap (λ (j : ℕ). get_or (splice out 0 vs) j 0) (sym (zero-add i)) ∙ sym e ∙ ap (λ (l : List ℕ). get_or l i 0) f

-- the lent numbers taken into a list of n, with zeros past the last: the same fours
module _ (n : ℕ) (ios : List ℕ) (h : length ios ≤ n) where
  abbrev filled : List ℕ
  filled = splice (replicate n 0) 0 ios

  zeros-at : (k : ℕ) → ◌≡◌ {A = ℕ} (get_or (replicate n 0) k 0) 0
  zeros-at k = by-lt k n (get_or-replicate {A = ℕ} n k 0 0)
      (λ l. get_or-eq_default {A = ℕ} (replicate n 0) 0 (omega (arith, length-replicate {A = ℕ} n 0)))

  filled_at : (k : ℕ) → get_or filled k 0 ≡ get_or ios k 0
  filled_at k =
      let m = length-replicate {A = ℕ} n 0 in
      by-lt k (length ios)
      (λ l. start_at (replicate n 0) ios k (omega arith) l)
      (λ l. get_d_splice_out (replicate n 0) 0 ios k (omega arith) (λ a b. omega arith) ∙ zeros-at k
      ∙ sym (get_or-eq_default ios 0 l))

  filled_four : (i : ℕ) → four_from filled i ≡ four_from ios i
  unfolding four_from
  filled_four i = rw (filled_at (4 * i), filled_at (4 * i + 1), filled_at (4 * i + 2), filled_at (4 * i + 3))

  pub filled_fours : fours_kept filled ((length ios + 3) / 4) ≡ numbers_kept ios
  filled_fours =
      let m = (length ios + 3) / 4 in
      let e = fours_kept-length filled m in
      ext_get_or 0 _ (numbers_kept ios) (e ∙ sym (numbers-kept-length ios))
      (λ i k. fours_kept-at filled m i (omega arith) ∙ filled_four i ∙ sym (numbers-kept-at ios i (omega arith)))

module _ (out ios : List ℕ) (h : (length ios + 3) / 4 ≤ length out) where
  number_kept : (k : ℕ) → k < length ios → number_in (splice out 0 (numbers_kept ios)) k ≡ get_or ios k 0 % 2 ^ 16
  unfolding number_in
  number_kept k l =
      let n = numbers-kept-length ios in
      ap (part (16 * (k % 4)) 16)
      (start_at out (numbers_kept ios) (k / 4) (omega arith) (omega arith) ∙ numbers-kept-at ios (k / 4) (omega arith))
      ∙ quarters ios k

  pub numbers_back : every is_io_number ios ≡ true → numbers_in (splice out 0 (numbers_kept ios)) (length ios) ≡ ios
  numbers_back q =
      let e = numbers-length (splice out 0 (numbers_kept ios)) (length ios) in
      ext_get_or 0 _ ios e
      (λ i k. let s = ltb-true (get_or ios i 0) (2 ^ 16) (every-place 0 is_io_number ios i (omega arith) q) in
      numbers-at (splice out 0 (numbers_kept ios)) (length ios) i (omega arith) ∙ number_kept i (omega arith) ∙ omega arith)
