-- The bits that a group's indicators are read from, and what is read there (01, "Program blocks"; 001, Figures 15 and 16).
use Rattle.std.specs.Prelude.{ℕ, zero, suc, ◌+◌, ◌-◌, ◌*◌, ◌≤◌, Bool, cond, ◌&&◌, length, get_or, ltb, leb, eqb}
use mathlib.Core.List.{List, [], ◌∷◌, reverse, flat_map}
use Rattle.word.specs.declared.Half.TheVariants.{Left, Right}
use Rattle.word.specs.Word.{word_bits, bit, is_set, field_of}
use Rattle.word.specs.Lists.{range}
use Rattle.indicator.specs.declared.Indicator.{Indicator}
use Rattle.indicator.specs.declared.Indicator.TheVariants.{Same, Change, Long}

-- the n low bits of a word, the most significant first
unfoldable pub bits_of : ℕ → ℕ → List ℕ
bits_of zero w = []
bits_of (suc n) w = bit n w ∷ bits_of n w

-- of a group's indicator words, in their order in the block: "Indicators are read from the last word of the group, most
-- significant bit first, and run on into the word before it."
unfoldable pub indicator_bits : List ℕ → List ℕ
indicator_bits words = flat_map (bits_of word_bits) (reverse words)

-- the bits of the n indicator words that stand before place `end` of a block
unfoldable pub bits_before : List ℕ → ℕ → ℕ → List ℕ
bits_before block end n = indicator_bits (range block (end - n) n)

-- those n words are there
pub record InBlock (block : List ℕ) (end n : ℕ) : Type 0 where
  pub first : n ≤ end
  pub last : end ≤ length block

-- the number that n bits from place p on spell, the most significant first; a bit past the end counts as 0
unfoldable pub number_at : List ℕ → ℕ → ℕ → ℕ
number_at bits p zero = 0
number_at bits p (suc n) = 2 * number_at bits p n + get_or bits (p + n) 0

-- the indicator at place p, of a field that holds f: "one bit 0 for no change; or 1 and a three-bit type", and nine bits more
-- "for type 010 with the field's bit 15 set"
unfoldable pub indicator_at : List ℕ → ℕ → ℕ → Indicator
indicator_at bits p f =
    cond (eqb (get_or bits p 0) 0) Same
    (cond (eqb (number_at bits (p + 1) 3) 2 && is_set 15 f) (Long (number_at bits (p + 4) 9))
    (Change (number_at bits (p + 1) 3)))

-- "1 bit for no change, 13 for type 010 with the field's bit 15 set, 4 for any other type, carried or not"
abbrev pub width_of : Indicator → ℕ
width_of Same = 1
width_of (Change t) = 4
width_of (Long x) = 13

-- the place after the indicator of a field that holds f
unfoldable pub after_field : List ℕ → ℕ → ℕ → ℕ
after_field bits p f = p + width_of (indicator_at bits p f)

-- "Each program word has a left indicator, then a right": the place after the two
unfoldable pub after_word : List ℕ → ℕ → ℕ → ℕ
after_word bits p w = after_field bits (after_field bits p (field_of Left w)) (field_of Right w)

-- the place after the indicators of all the program words
unfoldable pub after_all : List ℕ → ℕ → List ℕ → ℕ
after_all bits p [] = p
after_all bits p (w ∷ ws) = after_all bits (after_word bits p w) ws

-- "The group has just as many indicator words as the bits need": room for all, and not a word more. What is left over in the
-- first of them are the spare bits, which nothing reads
abbrev pub just_enough : ℕ → ℕ → Bool
just_enough bits words = leb bits (word_bits * words) && ltb (word_bits * words) (bits + word_bits)
