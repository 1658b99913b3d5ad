-- What is to be known of a field of a word, proved once over its lowest bit k and its width n, and so for either half and for
-- bits 25-22.
use mathlib.Core.Path.{◌≡◌, sym, ap, ◌∙◌}
use mathlib.Core.Logic.{◌⊎◌, ⊎_elim}
use Prim.Native.Nat.{ℕ, ◌+◌, ◌*◌, ◌/◌, ◌%◌, ◌^◌, ◌-◌, ◌<◌, ◌≤◌}
use native.Mathlib.Nat.{mod-lt}
use native.Mathlib.Omega.{arith}
use lib.Pow.{pow_pos, pow-add, high, low, shr-shr, shr_lt, field, mod-mod-pow}
use lib.Arith.{digits_lt}
use Rattle.word.specs.declared.Half.{Half}
use Rattle.word.specs.declared.Half.TheVariants.{Left, Right}
use Rattle.word.specs.Word.{part, put, bit, lowest, field_of, field_stored, a_field, a_stored}

pub part_below : (k n w : ℕ) → part k n w < 2 ^ n
part_below k n w = mod-lt (w / 2 ^ k) (pow_pos n)

module _ (k n w v : ℕ) where
  -- the word above its low k bits
  top : put k n w v / 2 ^ k ≡ w / 2 ^ (k + n) * 2 ^ n + v
  top = high (w / 2 ^ (k + n) * 2 ^ n + v) k (mod-lt w (pow_pos k))

  -- what was stored is read
  pub part-put : v < 2 ^ n → part k n (put k n w v) ≡ v
  part-put h = rw top (low (w / 2 ^ (k + n)) n h)

  -- what stands below the field, and what stands above, is as it was
  pub low_put : put k n w v % 2 ^ k ≡ w % 2 ^ k
  low_put = low (w / 2 ^ (k + n) * 2 ^ n + v) k (mod-lt w (pow_pos k))

  pub high_put : v < 2 ^ n → put k n w v / 2 ^ (k + n) ≡ w / 2 ^ (k + n)
  high_put h = sym (shr-shr (put k n w v) k n) ∙ rw top (high (w / 2 ^ (k + n)) n h)

  -- no longer than it was: the bounds are written so that numerals compute (2 + (18 + 16) and (2 + 16) + 18 are 36)
  pub put_below : (m : ℕ) → w < 2 ^ (m + (k + n)) → v < 2 ^ n → put k n w v < 2 ^ ((m + n) + k)
  put_below m hw hv =
      rw (pow-add 2 (m + n) k, pow-add 2 m n)
      (digits_lt (digits_lt (shr_lt m (k + n) hw) hv) (mod-lt w (pow_pos k)))

-- a bit below place (d + 1) + j hangs on the bits below that place alone, and one from place k up on those from k up alone
same_low : (d j a b : ℕ) → a % 2 ^ ((d + 1) + j) ≡ b % 2 ^ ((d + 1) + j) → bit j a ≡ bit j b
same_low d j a b e = one a ∙ ap (λ (x : ℕ). x / 2 ^ j % 2 ^ 1) e ∙ sym (one b)
  where
    one : (x : ℕ) → bit j x ≡ x % 2 ^ ((d + 1) + j) / 2 ^ j % 2 ^ 1
    one x = sym (mod-mod-pow (x / 2 ^ j) d 1) ∙ ap (λ (y : ℕ). y % 2 ^ 1) (sym (field x (d + 1) j))

same_high : (k d a b : ℕ) → a / 2 ^ k ≡ b / 2 ^ k → bit (k + d) a ≡ bit (k + d) b
same_high k d a b e = ap (λ (x : ℕ). x % 2) (sym (shr-shr a k d) ∙ ap (λ (x : ℕ). x / 2 ^ d) e ∙ shr-shr b k d)

bit_below : (d j n w v : ℕ) → bit j (put ((d + 1) + j) n w v) ≡ bit j w
bit_below d j n w v = same_low d j (put ((d + 1) + j) n w v) w (low_put ((d + 1) + j) n w v)

bit-above : (k n d w v : ℕ) → v < 2 ^ n → bit ((k + n) + d) (put k n w v) ≡ bit ((k + n) + d) w
bit-above k n d w v h = same_high (k + n) d (put k n w v) w (high_put k n w v h)

-- every bit outside the field is as it was
pub bit-put : (k n j w v : ℕ) → v < 2 ^ n → (j < k) ⊎ (k + n ≤ j) → bit j (put k n w v) ≡ bit j w
bit-put k n j w v h = ⊎_elim below above
  where
    below : j < k → bit j (put k n w v) ≡ bit j w
    below l =
        let e : k - j - 1 + 1 + j ≡ k = omega arith in
        rw e at (bit_below (k - j - 1) j n w v)

    above : k + n ≤ j → bit j (put k n w v) ≡ bit j w
    above g =
        let e : k + n + (j - (k + n)) ≡ j = omega arith in
        rw e at (bit-above k n (j - (k + n)) w v h)

-- the field of either half: it reads back, the word stays a word, every other bit is as it was, and so is the other half
pub field_stored_lem : (h : Half) (w v : ℕ) → v < 2 ^ 16 → field_of h (field_stored h w v) ≡ v
field_stored_lem h w v = part-put (lowest h) 16 w v

pub stored_word : (h : Half) (w v : ℕ) → w < 2 ^ 36 → v < 2 ^ 16 → field_stored h w v < 2 ^ 36
stored_word Left w v = put_below 18 16 w v 2
stored_word Right w v = put_below 0 16 w v 20

pub bit-stored : (h : Half) (j w v : ℕ) → v < 2 ^ 16 → (j < lowest h) ⊎ (lowest h + 16 ≤ j) → bit j (field_stored h w v) ≡ bit j w
bit-stored h j w v = bit-put (lowest h) 16 j w v

abbrev pub across : Half → Half
across Left = Right
across Right = Left

pub across-stored : (h : Half) (w v : ℕ) → v < 2 ^ 16 → field_of (across h) (field_stored h w v) ≡ field_of (across h) w
across-stored Left w v l = omega arith
across-stored Right w v l = omega arith

-- the same for bits 25-22
pub a-stored : (w v : ℕ) → v < 2 ^ 4 → a_field (a_stored w v) ≡ v
a-stored w v = part-put 22 4 w v

pub a-stored_word : (w v : ℕ) → w < 2 ^ 36 → v < 2 ^ 4 → a_stored w v < 2 ^ 36
a-stored_word w v = put_below 22 4 w v 10

pub bit-a-stored : (j w v : ℕ) → v < 2 ^ 4 → (j < 22) ⊎ (26 ≤ j) → bit j (a_stored w v) ≡ bit j w
bit-a-stored j w v = bit-put 22 4 j w v
