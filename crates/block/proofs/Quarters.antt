-- The pass goes through the four quarters of a block side by side, a word of each in a turn: what is left of the block, and what a
-- turn takes of it.
use Rattle.std.proofs.Common.{◌≡◌, ℕ, ◌+◌, ◌%◌, ◌^◌, ◌<◌, ◌≤◌, Bool, true, false, ◌&&◌, leb, List, [], ◌∷◌, ◌++◌, length, get_or, drop, sym, refl, ap, ◌∙◌, zero-add, add-one, arith, take-append-drop, drop_of_length-le, drop-cons, drop-drop, leb-true}
use lib.Bits.{bit_or}
use Rattle.word.specs.Limits.{words_in_block}
use Rattle.word.specs.Word.{is_word}
use Rattle.word.specs.Lists.{every, range}
use Rattle.word.proofs.Cases.{and_assoc, and_true}
use Rattle.word.proofs.Range.{or_below}
use Rattle.word.proofs.Stretch.{every_head, every_tail}
use Rattle.word.proofs.Lists.{length-range, length-range_most, get_d_range}
use Rattle.block.specs.HowChecksum.{total, quarter, quarters, left_of}

-- sums and tests of two lists
total-append : (xs ys : List ℕ) → total (xs ++ ys) ≡ total xs + total ys
unfolding total
total-append [] ys = omega arith
total-append (x ∷ xs) ys = rw (total-append xs ys) (omega arith)

and_past : (a b c : Bool) → (a && (b && c)) ≡ (b && (a && c))
and_past true b c = refl
and_past false true c = refl
and_past false false c = refl

every_append : (xs ys : List ℕ) → every is_word (xs ++ ys) ≡ (every is_word xs && every is_word ys)
unfolding every
every_append [] ys = refl
every_append (x ∷ xs) ys = rw (every_append xs ys) (sym (and_assoc (is_word x) (every is_word xs) (every is_word ys)))

-- ---- all of a block is left at the start: its quarters one after another
joined : (l : List ℕ) (a : ℕ) → range l a quarter ++ drop (a + quarter) l ≡ drop a l
unfolding range
joined l a = rw (← drop-drop quarter a l) (take-append-drop quarter (drop a l))

pub left-all : (l : List ℕ) → length l ≡ words_in_block → left_of quarters l 0 ≡ l
unfolding left_of
left-all l long =
    rw (← drop_of_length-le l {i = 256} (omega arith), joined l 192, joined l 128, joined l 64) (joined l 0)

module _ (l : List ℕ) (i : ℕ) where
  -- ---- nothing of it is left at the end
  pub left-none : (starts : List ℕ) → quarter ≤ i → left_of starts l i ≡ []
  unfolding left_of
  left-none [] h = refl
  left-none (a ∷ starts) h =
      let n = length-range_most l a quarter in
      rw (drop_of_length-le (range l a quarter) {i = i} (omega arith), left-none starts h)

  -- ---- a turn takes word i of each quarter
  abbrev heads : List ℕ → List ℕ
  heads [] = []
  heads (a ∷ starts) = get_or l (a + i) 0 ∷ heads starts

  abbrev inside : ℕ → Bool
  inside a = leb (a + quarter) (length l)

  one : (a : ℕ) → inside a ≡ true → i < quarter
      → drop i (range l a quarter) ≡ get_or l (a + i) 0 ∷ drop (i + 1) (range l a quarter)
  one a q h =
      let m = leb-true (a + quarter) (length l) q in
      let n = length-range l a quarter m in
      rw (drop-cons (range l a quarter) i 0 (omega arith), get_d_range l a quarter i h, add-one i)

  left-total : (starts : List ℕ) → every inside starts ≡ true → i < quarter
      → total (left_of starts l i) ≡ total (heads starts) + total (left_of starts l (i + 1))
  unfolding total left_of
  left-total [] q h = omega arith
  left-total (a ∷ starts) q h =
      rw (
        one a (every_head inside a starts q) h,
        total-append (drop (i + 1) (range l a quarter)) (left_of starts l i),
        total-append (drop (i + 1) (range l a quarter)) (left_of starts l (i + 1)),
        left-total starts (every_tail inside a starts q) h,
      )
      (omega arith)

  left-every : (starts : List ℕ) → every inside starts ≡ true → i < quarter
      → every is_word (left_of starts l i) ≡ (every is_word (heads starts) && every is_word (left_of starts l (i + 1)))
  unfolding every left_of
  left-every [] q h = refl
  left-every (a ∷ starts) q h =
      let w = get_or l (a + i) 0 in
      let d = every is_word (drop (i + 1) (range l a quarter)) in
      let e = every is_word (heads starts) in
      let r = every is_word (left_of starts l (i + 1)) in
      rw (
        one a (every_head inside a starts q) h,
        every_append (drop (i + 1) (range l a quarter)) (left_of starts l i),
        every_append (drop (i + 1) (range l a quarter)) (left_of starts l (i + 1)),
        left-every starts (every_tail inside a starts q) h,
      )
      (ap (λ (b : Bool). is_word w && b) (and_past d e r) ∙ sym (and_assoc (is_word w) e (d && r)))

-- ---- a turn of the loop, by the four words that it takes
wrapped : (s x r t : ℕ) → (s + (x + r)) % 2 ^ 64 ≡ t % 2 ^ 64 → ((s + x) % 2 ^ 64 + r) % 2 ^ 64 ≡ t % 2 ^ 64
wrapped s x r t q = omega arith

and_turned : (n a b c d e : Bool) → (n && ((a && (b && (c && (d && true)))) && e)) ≡ (((((n && a) && b) && c) && d) && e)
and_turned false a b c d e = refl
and_turned true false b c d e = refl
and_turned true true false c d e = refl
and_turned true true true false d e = refl
and_turned true true true true false e = refl
and_turned true true true true true e = refl

module _ (l : List ℕ) (i : ℕ) (long : length l ≡ words_in_block) where
  all-inside : every (inside l i) quarters ≡ true
  unfolding every
  all-inside = rw long

  -- what was summed and what is left to sum is the whole, as far as 64 bits tell
  pub sums_more : (s t : ℕ) → i < quarter → (s + total (left_of quarters l i)) % 2 ^ 64 ≡ t % 2 ^ 64
      → (((((s + get_or l i 0) % 2 ^ 64 + get_or l (64 + i) 0) % 2 ^ 64 + get_or l (128 + i) 0) % 2 ^ 64 + get_or l (192 + i) 0) % 2 ^ 64
      + total (left_of quarters l (i + 1))) % 2 ^ 64 ≡ t % 2 ^ 64
  unfolding total
  sums_more s t h q =
      let a = get_or l i 0 in
      let b = get_or l (64 + i) 0 in
      let c = get_or l (128 + i) 0 in
      let d = get_or l (192 + i) 0 in
      let r = total (left_of quarters l (i + 1)) in
      let f = rw (zero-add i) at (left-total l i quarters all-inside h) in
      let e : total (left_of quarters l i) ≡ a + (b + (c + (d + r))) = omega (arith, f) in
      wrapped ((((s + a) % 2 ^ 64 + b) % 2 ^ 64 + c) % 2 ^ 64) d r t
      (wrapped (((s + a) % 2 ^ 64 + b) % 2 ^ 64) c (d + r) t
      (wrapped ((s + a) % 2 ^ 64) b (c + (d + r)) t (wrapped s a (b + (c + (d + r))) t (rw e at q))))

  -- every word so far, and every one that is left, is below 2^36
  pub words_more : (any : ℕ) (b : Bool) → i < quarter → b ≡ (is_word any && every is_word (left_of quarters l i))
      → b ≡ (is_word (bit_or (bit_or (bit_or (bit_or any (get_or l i 0)) (get_or l (64 + i) 0)) (get_or l (128 + i) 0)) (get_or l (192 + i) 0))
      && every is_word (left_of quarters l (i + 1)))
  unfolding every
  words_more any b h q =
      let w = get_or l (0 + i) 0 in
      let x = get_or l (64 + i) 0 in
      let y = get_or l (128 + i) 0 in
      let z = get_or l (192 + i) 0 in
      q
      ∙ ap (λ (r : Bool). is_word any && r) (left-every l i quarters all-inside h)
      ∙ and_turned (is_word any) (is_word w) (is_word x) (is_word y) (is_word z) (every is_word (left_of quarters l (i + 1)))
      ∙ rw (
        or_below 36 (bit_or (bit_or (bit_or any (get_or l i 0)) x) y) z,
        or_below 36 (bit_or (bit_or any (get_or l i 0)) x) y,
        or_below 36 (bit_or any (get_or l i 0)) x,
        or_below 36 any (get_or l i 0),
        zero-add i,
      )

  -- at the end nothing is left
  pub sums_end : (s t : ℕ) → quarter ≤ i → (s + total (left_of quarters l i)) % 2 ^ 64 ≡ t % 2 ^ 64 → s % 2 ^ 64 ≡ t % 2 ^ 64
  unfolding total
  sums_end s t h q = let e = ap total (left-none l i quarters h) in omega (arith, e, q)

  pub words_end : (any : ℕ) (b : Bool) → quarter ≤ i → b ≡ (is_word any && every is_word (left_of quarters l i)) → b ≡ is_word any
  unfolding every
  words_end any b h q = q ∙ rw (left-none l i quarters h) (and_true (is_word any))
