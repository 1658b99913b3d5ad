-- The bits of a group's indicator words by arithmetic, as the code reads them, and how large a number of them can be.
use mathlib.Core.Path.{◌≡◌, refl, sym, ap, ◌∙◌}
use mathlib.Core.List.{List, [], ◌∷◌, ◌++◌, reverse, reverse-cons, flat_map}
use Prim.Native.Nat.{ℕ, zero, suc, ◌+◌, ◌-◌, ◌*◌, ◌/◌, ◌%◌, ◌^◌, ◌≤◌, ◌<◌}
use native.Mathlib.Nat.{not-suc-le-zero, mod-lt, zero-div}
use native.Mathlib.Omega.{arith}
use lib.ListN.{length, get_or, length-append, length-reverse, get_or-append, get_or-eq_default}
use lib.Seq.{get_or-append-add, get_or_at}
use Rattle.word.specs.Word.{bit}
use Rattle.word.specs.Lists.{range}
use Rattle.word.proofs.Cases.{by-lt}
use Rattle.word.proofs.Lists.{length-range, get_d_range, length-range_most}
use Rattle.indicator.specs.Indicator.{InBlock, bits_of, indicator_bits, bits_before, number_at}

length-bits_of : (n w : ℕ) → length (bits_of n w) ≡ n
unfolding bits_of
length-bits_of zero w = refl
length-bits_of (suc n) w = ap suc (length-bits_of n w)

get_d_bits_of : (n w i : ℕ) → i < n → get_or (bits_of n w) i 0 ≡ bit (n - 1 - i) w
unfolding bits_of
get_d_bits_of zero w i h = absurd (not-suc-le-zero h)
get_d_bits_of (suc n) w zero h = ap (λ (j : ℕ). bit j w) (omega arith)
get_d_bits_of (suc n) w (suc i) h = get_d_bits_of n w i (omega arith) ∙ ap (λ (j : ℕ). bit j w) (omega arith)

get_d_reverse : (l : List ℕ) (i : ℕ) → i < length l → get_or (reverse l) i 0 ≡ get_or l (length l - 1 - i) 0
get_d_reverse [] i h = absurd (not-suc-le-zero h)
get_d_reverse (x ∷ xs) i h =
    rw (reverse-cons x xs)
    (by-lt i (length xs)
    (λ l.
    let e : suc (length xs) - 1 - i ≡ suc (length xs - 1 - i) = omega arith in
    get_or-append (reverse xs) (x ∷ []) 0 i (omega (arith, length-reverse xs)) ∙ get_d_reverse xs i l ∙ rw e)
    (λ g.
    let e : suc (length xs) - 1 - i ≡ 0 = omega arith in
    get_or_at (reverse xs) x [] 0 i (omega (arith, length-reverse xs)) ∙ rw e))

zero_bit : (j : ℕ) → bit j 0 ≡ 0
zero_bit j = ap (λ (x : ℕ). x % 2) (zero-div (2 ^ j))

-- of words one after the other bit k is in word k / 36, 35 - k % 36 bits up; past their end both sides are 0
flat_at : (ws : List ℕ) (k : ℕ) → get_or (flat_map (bits_of 36) ws) k 0 ≡ bit (35 - k % 36) (get_or ws (k / 36) 0)
unfolding flat_map
flat_at [] k = sym (zero_bit (35 - k % 36))
flat_at (w ∷ ws) k =
    let long = length-bits_of 36 w in
    by-lt k 36
    (λ l.
    let e : k / 36 ≡ 0 = omega arith in
    let f : 36 - 1 - k ≡ 35 - k % 36 = omega arith in
    get_or-append (bits_of 36 w) (flat_map (bits_of 36) ws) 0 k (omega arith) ∙ get_d_bits_of 36 w k l ∙ rw (e, f))
    (λ g.
    let e : k / 36 ≡ suc ((k - 36) / 36) = omega arith in
    let f : k % 36 ≡ (k - 36) % 36 = omega arith in
    ap (λ (j : ℕ). get_or (bits_of 36 w ++ flat_map (bits_of 36) ws) j 0) (omega arith)
    ∙ get_or-append-add (bits_of 36 w) (flat_map (bits_of 36) ws) (k - 36) 0
    ∙ flat_at ws (k - 36)
    ∙ rw (e, f))

length_flat : (ws : List ℕ) → length (flat_map (bits_of 36) ws) ≡ 36 * length ws
unfolding flat_map
length_flat [] = refl
length_flat (w ∷ ws) = length-append (bits_of 36 w) (flat_map (bits_of 36) ws) ∙ omega (arith, length-bits_of 36 w, length_flat ws)

-- 36 bits a word
pub length-indicator_bits : (words : List ℕ) → length (indicator_bits words) ≡ 36 * length words
unfolding indicator_bits
length-indicator_bits words = length_flat (reverse words) ∙ ap (λ (m : ℕ). 36 * m) (length-reverse words)

-- the n words before place `end`, the last one first
last-first : (block : List ℕ) (end n i : ℕ) → InBlock block end n → i < n
    → get_or (reverse (range block (end - n) n)) i 0 ≡ get_or block (end - 1 - i) 0
last-first block end n i h l =
    let ws = range block (end - n) n in
    let m = length-range block (end - n) n (omega arith) in
    get_d_reverse ws i (rw m l)
    ∙ ap (λ (x : ℕ). get_or ws (x - 1 - i) 0) m
    ∙ get_d_range block (end - n) n (n - 1 - i) (omega arith)
    ∙ ap (λ (j : ℕ). get_or block j 0) (omega arith)

module _ (block : List ℕ) (end n k : ℕ) where
  -- bit k is in the word k / 36 places before the last, 35 - k % 36 bits up
  pub bits_at : InBlock block end n → k / 36 < n
      → get_or (bits_before block end n) k 0 ≡ bit (35 - k % 36) (get_or block (end - 1 - k / 36) 0)
  unfolding bits_before indicator_bits
  bits_at h l =
      flat_at (reverse (range block (end - n) n)) k
      ∙ ap (bit (35 - k % 36)) (last-first block end n (k / 36) h l)

  pub bits_past : n ≤ k / 36 → get_or (bits_before block end n) k 0 ≡ 0
  unfolding bits_before
  bits_past h =
      let ws = range block (end - n) n in
      get_or-eq_default (indicator_bits ws) 0 (omega (arith, length-indicator_bits ws, length-range_most block (end - n) n))

  pub bit_below : get_or (bits_before block end n) k 0 < 2
  unfolding bits_before indicator_bits
  bit_below =
      let ws = reverse (range block (end - n) n) in
      rw (flat_at ws k) (mod-lt (get_or ws (k / 36) 0 / 2 ^ (35 - k % 36)) (omega arith))

-- a number of n bits is below 2 ^ n
pub number_below_lem : (block : List ℕ) (end m p n : ℕ) → number_at (bits_before block end m) p n < 2 ^ n
unfolding number_at
number_below_lem block end m p zero = omega arith
number_below_lem block end m p (suc n) = omega (arith, number_below_lem block end m p n, bit_below block end m (p + n))
