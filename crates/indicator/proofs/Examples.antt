-- Groups worked by hand beside 001's Figure 15, which names the half words of the program words K, L, .. and the indicators
-- k, l, .. of each. Every word is written in octal. Each theorem holds by computing.
use mathlib.Core.Path.{◌≡◌, refl}
use mathlib.Core.Bool.{true, false}
use mathlib.Core.List.{List, [], ◌∷◌, ◌++◌, map, flat_map}
use Prim.Native.Nat.{ℕ}
use lib.ListN.{replicate}
use Rattle.word.specs.declared.Half.TheVariants.{Left, Right}
use Rattle.word.specs.Word.{field_of}
use Rattle.word.specs.Lists.{range}
use Rattle.indicator.specs.declared.Indicator.{Indicator}
use Rattle.indicator.specs.declared.Indicator.TheVariants.{Same, Change, Long}
use Rattle.indicator.specs.Indicator.{bits_of, indicator_bits, bits_before, number_at, indicator_at, after_field, after_word}
use Rattle.indicator.specs.Indicator.{after_all, just_enough}

-- the indicators of program words, in turn
unfoldable indicators : List ℕ → ℕ → List ℕ → List Indicator
indicators bits p [] = []
indicators bits p (w ∷ ws) =
    indicator_at bits p (field_of Left w)
    ∷ indicator_at bits (after_field bits p (field_of Left w)) (field_of Right w)
    ∷ indicators bits (after_word bits p w) ws

-- The k-field: two program words KL and MN, and a last word that begins 1000 0 1111 0. Its most significant bits are k, and l,
-- m, n follow; the 26 spare bits are disregarded.
abbrev kn : List ℕ
kn = 0o741000000001 ∷ 0o270000000002 ∷ 0o417000000000 ∷ []

top_down : indicators (bits_before kn 3 1) 0 (range kn 0 2) ≡ Change 0 ∷ Same ∷ Change 7 ∷ Same ∷ []
unfolding indicators bits_before indicator_bits flat_map bits_of range number_at indicator_at after_field after_word
top_down = refl

top_down_fits : just_enough (after_all (bits_before kn 3 1) 0 (range kn 0 2)) 1 ≡ true
unfolding bits_before indicator_bits flat_map bits_of range number_at indicator_at after_field after_word after_all
top_down_fits = refl

-- The same for the group of the hand deck's program block (01): one word, whose right field takes the area's address.
abbrev deck : List ℕ
deck = 0o401001400000 ∷ 0o000000000007 ∷ 0o200000000000 ∷ []

hand_deck : indicators (bits_before deck 3 1) 0 (range deck 1 1) ≡ Same ∷ Change 0 ∷ []
unfolding indicators bits_before indicator_bits flat_map bits_of range number_at indicator_at after_field after_word
hand_deck = refl

-- The fields s1 and s2: seventeen words without change fill 34 bits of the last word, so of the next indicator, 1 110, the first
-- two bits are the last word's least significant and the other two the most significant of the word before it.
abbrev st : List ℕ
st = replicate 18 0 ++ (0o400000000000 ∷ 0o000000000003 ∷ [])

split : indicators (bits_before st 20 2) 34 (range st 17 1) ≡ Change 6 ∷ Same ∷ []
unfolding indicators bits_before indicator_bits flat_map bits_of range number_at indicator_at after_field after_word
split = refl

split_reach : after_all (bits_before st 20 2) 0 (range st 0 18) ≡ 39
unfolding bits_before indicator_bits flat_map bits_of range number_at indicator_at after_field after_word after_all
split_reach = refl

-- An indicator of 13 bits (Figure 16), 1 010 1 0 0000101: type 010, and of the nine bits more the first for a length, a zero and
-- the number 5. Where the field's bit 15 is not set, the same bits begin with an indicator of 4.
long : map (indicator_at (indicator_bits (0o520240000000 ∷ [])) 0) (32868 ∷ 100 ∷ []) ≡ Long 261 ∷ Change 2 ∷ []
unfolding indicator_bits flat_map bits_of number_at indicator_at
long = refl

-- The indicator words of a group: 36 bits need one, neither none nor two, and 37 need two.
enough : map (just_enough 36) (0 ∷ 1 ∷ 2 ∷ []) ≡ false ∷ true ∷ false ∷ []
enough = refl

enough_more : map (just_enough 37) (1 ∷ 2 ∷ 3 ∷ []) ≡ false ∷ true ∷ false ∷ []
enough_more = refl
