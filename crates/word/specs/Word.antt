-- A core word: 36 bits, bit 35 leftmost, held as a number below 2^36. A field of n bits whose lowest is bit k is read by
-- `part k n` and stored by `put k n`; both are over any k and n, so that what is proved of them is proved once for the left
-- half, the right half, bits 25-22 and any field that is still to come.
use Rattle.std.specs.Prelude.{ℕ, ◌+◌, ◌-◌, ◌*◌, ◌/◌, ◌%◌, ◌^◌, Bool, eqb, ltb}
use Rattle.word.specs.declared.Half.{Half}
use Rattle.word.specs.declared.Half.TheVariants.{Left, Right}

-- "A core word is 36 bits"
abbrev pub word_bits : ℕ
word_bits = 36

abbrev pub word_limit : ℕ
word_limit = 2 ^ word_bits

abbrev pub is_word : ℕ → Bool
is_word w = ltb w word_limit

-- the n bits from bit k up, as a number
abbrev pub part : ℕ → ℕ → ℕ → ℕ
part k n w = w / 2 ^ k % 2 ^ n

-- the bits from `high` down to `low`, counted as 01 counts them: `bits 33 18` is 01's "bits 33-18"
abbrev pub bits : ℕ → ℕ → ℕ → ℕ
bits high low w = part low (high + 1 - low) w

-- the word w with v in the n bits from bit k up: what stands above the field, then v, then what stands below
abbrev pub put : ℕ → ℕ → ℕ → ℕ → ℕ
put k n w v = (w / 2 ^ (k + n) * 2 ^ n + v) * 2 ^ k + w % 2 ^ k

-- bit j, 0 or 1
abbrev pub bit : ℕ → ℕ → ℕ
bit j w = w / 2 ^ j % 2

-- bit j is set
abbrev pub is_set : ℕ → ℕ → Bool
is_set j w = eqb (bit j w) 1

-- "The 16-bit fields are bits 33-18 and 15-0."
abbrev pub lowest : Half → ℕ
lowest Left = 18
lowest Right = 0

abbrev pub field_of : Half → ℕ → ℕ
field_of h w = part (lowest h) 16 w

abbrev pub field_stored : Half → ℕ → ℕ → ℕ
field_stored h w v = put (lowest h) 16 w v

-- bits 25-22, which 001 calls the a-field
abbrev pub a_field : ℕ → ℕ
a_field w = bits 25 22 w

abbrev pub a_stored : ℕ → ℕ → ℕ
a_stored w v = put 22 4 w v
