-- Numbers that indicator bits spell: cut in two, past the end, over fewer words, over one word more.
use mathlib.Core.Path.{◌≡◌, refl, sym, ap, ◌∙◌}
use mathlib.Core.Logic.{⊎_elim}
use mathlib.Core.List.{List}
use Prim.Native.Nat.{ℕ, zero, suc, ◌+◌, ◌-◌, ◌*◌, ◌/◌, ◌%◌, ◌^◌, ◌≤◌, ◌<◌}
use native.Mathlib.Nat.{not-suc-le-zero, eq-or-lt_of_le, le_of_suc-le-suc, pow-suc, mul_assoc, add-suc}
use native.Mathlib.Omega.{arith}
use lib.Pow.{high, low, shr-shr, mod-pow-add}
use lib.ListN.{get_or}
use Rattle.indicator.specs.Indicator.{InBlock, bits_before, number_at}
use Rattle.indicator.proofs.Bits.{bits_at, bits_past, number_below_lem}

shift_suc : (a k : ℕ) → a * 2 ^ suc k ≡ a * 2 ^ k * 2
shift_suc a k = ap (λ (x : ℕ). a * x) (pow-suc 2 k) ∙ sym (mul_assoc a (2 ^ k) 2)

exp_down : (k : ℕ) → suc k ≤ 36 → 36 - suc k ≡ 35 - k
exp_down k h = omega arith

exp_up : (k : ℕ) → suc k ≤ 36 → 35 - k + 1 ≡ 36 - k
exp_up k h = omega arith

one_more : (k : ℕ) → k + 1 ≡ suc k
one_more k = omega arith

twice : (a b : ℕ) → 2 * a + b ≡ a * 2 + b
twice a b = omega arith

module _ (block : List ℕ) (end : ℕ) where
  -- of the m words before place `end`, the number that k bits from place p on spell
  abbrev pub N : ℕ → ℕ → ℕ → ℕ
  N m p k = number_at (bits_before block end m) p k

  -- a + b bits: the first a of them, and the b after those
  pub number_split : (m p a b : ℕ) → N m p (a + b) ≡ N m p a * 2 ^ b + N m (p + a) b
  unfolding number_at
  number_split m p a zero =
      let e : a + 0 ≡ a = omega arith in
      rw e (omega arith)
  number_split m p a (suc b) =
      let ih = number_split m p a b in
      let s = shift_suc (N m p a) b in
      let q : p + (a + b) ≡ p + a + b = omega arith in
      let g = ap (λ (k : ℕ). get_or (bits_before block end m) k 0) q in
      rw (add-suc a b) (omega arith)

  pub number_high : (m p a b : ℕ) → N m p (a + b) / 2 ^ b ≡ N m p a
  number_high m p a b = rw (number_split m p a b) (high (N m p a) b (number_below_lem block end m (p + a) b))

  pub number_low : (m p a b : ℕ) → N m p (a + b) % 2 ^ b ≡ N m (p + a) b
  number_low m p a b = rw (number_split m p a b) (low (N m p a) b (number_below_lem block end m (p + a) b))

  pub number_one : (m p : ℕ) → N m p 1 ≡ get_or (bits_before block end m) p 0
  unfolding number_at
  number_one m p =
      let q : p + 0 ≡ p = omega arith in
      let g = ap (λ (k : ℕ). get_or (bits_before block end m) k 0) q in
      omega arith

  pub number_past : (m p k : ℕ) → 36 * m ≤ p → N m p k ≡ 0
  unfolding number_at
  number_past m p zero h = refl
  number_past m p (suc k) h = omega (arith, number_past m p k h, bits_past block end m (p + k) (omega arith))

  -- the 64 bits from place p on, moved k bits to the left, are those from place p + k on, if no bit stands past them
  pub number_moved : (m p k : ℕ) → 36 * m ≤ p + 64 → N m p 64 * 2 ^ k % 2 ^ 64 ≡ N m (p + k) 64
  number_moved m p k h =
      let a = number_split m p 64 k in
      let z = number_past m (p + 64) k h in
      let e : 64 + k ≡ k + 64 = omega arith in
      let l : N m p 64 * 2 ^ k ≡ N m p (k + 64) = rw (sym e, a, z) (omega arith) in
      rw l (number_low m p k 64)

  -- a number is 0 where its bits are, and so are its bits where it is
  pub zero_bits : (m p k j : ℕ) → N m p k ≡ 0 → j < k → get_or (bits_before block end m) (p + j) 0 ≡ 0
  unfolding number_at
  zero_bits m p zero j z h = absurd (not-suc-le-zero h)
  zero_bits m p (suc k) j z h =
      let r = zero_bits m p k j (omega arith) in
      ⊎_elim (λ e. ap (λ (x : ℕ). get_or (bits_before block end m) (p + x) 0) e ∙ omega arith) r (eq-or-lt_of_le (le_of_suc-le-suc h))

  pub number_zero : (m p k : ℕ) → ((q : ℕ) → p ≤ q → get_or (bits_before block end m) q 0 ≡ 0) → N m p k ≡ 0
  unfolding number_at
  number_zero m p zero f = refl
  number_zero m p (suc k) f = omega (arith, number_zero m p k f, f (p + k) (omega arith))

  -- the last m words have the first 36 * m bits of the last n words
  module _ (n : ℕ) (inside : InBlock block end n) where
    fewer : (m : ℕ) → m ≤ n → InBlock block end m
    fewer m h = record { first = omega arith; last = inside.last }

    pub bits_fewer : (m p : ℕ) → m ≤ n → p < 36 * m → get_or (bits_before block end m) p 0 ≡ get_or (bits_before block end n) p 0
    bits_fewer m p h k = bits_at block end m p (fewer m h) (omega arith) ∙ sym (bits_at block end n p inside (omega arith))

    pub number_fewer : (m p k : ℕ) → m ≤ n → p + k ≤ 36 * m → N m p k ≡ N n p k
    unfolding number_at
    number_fewer m p zero h l = refl
    number_fewer m p (suc k) h l = omega (arith, number_fewer m p k h (omega arith), bits_fewer m (p + k) h (omega arith))

  -- the first k bits of the word that m words stand behind, and all of it
  module _ (m : ℕ) (inside : InBlock block end (m + 1)) where
    word_bits_lem : (k : ℕ) → k ≤ 36 → N (m + 1) (36 * m) k ≡ get_or block (end - 1 - m) 0 / 2 ^ (36 - k) % 2 ^ k
    unfolding number_at
    word_bits_lem zero h = omega arith
    word_bits_lem (suc k) h =
        let ih = word_bits_lem k (omega arith) in
        let w = get_or block (end - 1 - m) 0 in
        let i : end - 1 - (36 * m + k) / 36 ≡ end - 1 - m = omega arith in
        let j : 35 - (36 * m + k) % 36 ≡ 35 - k = omega arith in
        let g : get_or (bits_before block end (m + 1)) (36 * m + k) 0 ≡ w / 2 ^ (35 - k) % 2 = bits_at block end (m + 1)
        (36 * m + k) inside (omega arith) ∙ rw (i, j) in
        let half : w / 2 ^ (35 - k) / 2 ≡ w / 2 ^ (36 - k) = shr-shr w (35 - k) 1 ∙ ap (λ (x : ℕ). w / 2 ^ x) (exp_up k h) in
        let cut = mod-pow-add (w / 2 ^ (35 - k)) k 1 in
        rw (g, ih, exp_down k h, sym (one_more k), cut, sym half) (twice (w / 2 ^ (35 - k) / 2 % 2 ^ k) (w / 2 ^ (35 - k) % 2))

    number_word : N (m + 1) (36 * m) 36 ≡ get_or block (end - 1 - m) 0 % 2 ^ 36
    number_word = word_bits_lem 36 (omega arith) ∙ omega arith

    -- one word more, behind the h bits that are left of m words
    pub number_more : (at h s : ℕ) → at + h ≡ 36 * m → h + s ≡ 28
        → N m at 64 + get_or block (end - 1 - m) 0 % 2 ^ 36 * 2 ^ s ≡ N (m + 1) at 64
    number_more at h s e q =
        let z : 64 ≡ h + (36 + s) = omega arith in
        let a = number_split m at h (36 + s) in
        let b = number_split (m + 1) at h (36 + s) in
        let c = number_split (m + 1) (36 * m) 36 s in
        let n = number_past m (36 * m) (36 + s) (omega arith) in
        let o = number_past (m + 1) (36 * m + 36) s (omega arith) in
        rw (z, a, b, e, n, c, o, number_word, number_fewer (m + 1) inside m at h (omega arith) (omega arith)) (omega arith)
