-- how the code goes, not a rule of 01
-- Reading a group's indicators with the next 64 bits at hand as one number. What a cursor sees is said by `Sees`, in terms of the
-- bits that specs/Indicator.antt defines; that it reads the same indicators is proved in proofs/Reading.antt.
use Rattle.std.specs.Prelude.{ℕ, ◌+◌, ◌-◌, ◌*◌, ◌/◌, ◌%◌, ◌^◌, ◌≤◌, ◌<◌, ◌≡◌, true, cond, ◌&&◌, List, length, get_or, min, ltb, leb, eqb}
use Rattle.word.specs.declared.Half.TheVariants.{Left, Right}
use Rattle.word.specs.Limits.{words_in_block}
use Rattle.word.specs.Lists.{every}
use Rattle.word.specs.Word.{is_word, bits, is_set, field_of}
use Rattle.indicator.specs.declared.Indicator.{Indicator}
use Rattle.indicator.specs.declared.Indicator.TheVariants.{Same, Change, Long}
use Rattle.indicator.specs.Indicator.{bits_before, number_at, width_of}
use Rattle.indicator.specs.declared.Cursor.{Cursor}

-- the bits of the indicator words of a group: of its words those from place n on
abbrev pub group_bits : List ℕ → ℕ → List ℕ
group_bits words n = bits_before words (length words) (length words - n)

-- more bits than any group reads
abbrev pub endless : ℕ
endless = 2 ^ 16

-- where the words from place `next` on are taken: no bit is behind them, but 0s without end where they are all the words from n on
unfoldable pub beyond : ℕ → ℕ → ℕ
beyond n next = cond (leb next n) endless 0

-- the cursor stands at place `at` of the bits of the words from place n on: it sees those of the words taken so far, and 0s past
-- them; and d bits at least are left
pub record Sees (words : List ℕ) (n : ℕ) (c : Cursor) (at d : ℕ) : Type 0 where
  pub few : n ≤ c.next
  pub most : c.next ≤ length words
  pub seen : c.ahead ≡ number_at (group_bits words c.next) at 64
  pub near : 36 * (length words - c.next) ≤ at + 64
  pub left : c.left + at ≡ 36 * (length words - c.next) + beyond n c.next
  pub room : d ≤ c.left

-- before the first bit
abbrev pub start_cursor : ℕ → ℕ → Cursor
start_cursor end n = record { ahead = 0; left = beyond n end; next = end }

-- the place of the next bit
abbrev pub place_of : ℕ → ℕ → Cursor → ℕ
place_of end n c = 36 * (end - c.next) + beyond n c.next - c.left

-- the indicator that comes next, of a field that holds f: bit 63 tells a change, bits 62-60 are the type, bits 59-51 the nine more
unfoldable pub look_of : ℕ → ℕ → Indicator
look_of ahead f =
    cond (ltb ahead (2 ^ 63)) Same
    (cond (eqb (bits 62 60 ahead) 2 && is_set 15 f) (Long (bits 59 51 ahead))
    (Change (bits 62 60 ahead)))

-- past k bits; past an indicator; past that of a field that holds f; past a word's two
abbrev pub past_bits : Cursor → ℕ → Cursor
past_bits c k = record { ahead = c.ahead * 2 ^ k % 2 ^ 64; left = c.left - k; next = c.next }

unfoldable pub past_of : Cursor → Indicator → Cursor
past_of c m = past_bits c (width_of m)

unfoldable pub past_field : Cursor → ℕ → Cursor
past_field c f = past_of c (look_of c.ahead f)

unfoldable pub past_word : Cursor → ℕ → Cursor
past_word c w = past_field (past_field c (field_of Left w)) (field_of Right w)

-- one indicator word more, behind the bits at hand, where fewer than 29 of these are left
unfoldable pub refilled : List ℕ → ℕ → Cursor → Cursor
refilled words n c =
    cond (ltb 28 c.left) c
    (record {
      ahead = c.ahead + get_or words (c.next - 1) 0 * 2 ^ (28 - c.left) % 2 ^ 64;
      left = c.left + 36 + beyond n (c.next - 1);
      next = c.next - 1;
    })

-- how many of the program words left have no change, where all bits at hand are 0: two 0s each
unfoldable pub plain_words : Cursor → ℕ → ℕ
plain_words c most = min (c.left / 2) most

-- past k words without change
abbrev pub past_plain : Cursor → ℕ → Cursor
past_plain c k = record { ahead = 0; left = c.left - 2 * k; next = c.next }

-- ---- what is known before: where a place is reckoned, where a word more may be taken, and where a group's bits are counted
pub record PlaceReady (c : Cursor) (end n : ℕ) : Type 0 where
  pub most : c.next ≤ end
  pub few : end ≤ words_in_block
  pub left : c.left ≤ 36 * (end - c.next) + beyond n c.next

pub record RefillReady (words : List ℕ) (n : ℕ) (c : Cursor) : Type 0 where
  pub long : length words ≤ words_in_block
  pub all : every is_word words ≡ true
  pub sees : Sees words n c (place_of (length words) n c) 0
  pub near : place_of (length words) n c + 28 < endless

pub record CountReady (words : List ℕ) (n : ℕ) : Type 0 where
  pub long : length words ≤ words_in_block
  pub all : every is_word words ≡ true
  pub program : n ≤ length words
