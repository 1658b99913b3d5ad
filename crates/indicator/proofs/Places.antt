-- How far an indicator, a word's two and those of all words reach, and the turn and the end of a loop over program words.
use mathlib.Core.Path.{◌≡◌}
use mathlib.Core.List.{List}
use Prim.Native.Nat.{ℕ, ◌+◌, ◌-◌, ◌≤◌, ◌<◌}
use native.Mathlib.Omega.{arith}
use lib.ListN.{length, get_or}
use Rattle.word.specs.declared.Half.TheVariants.{Left, Right}
use Rattle.word.specs.Word.{field_of}
use Rattle.word.specs.Lists.{range}
use Rattle.indicator.specs.declared.Indicator.{Indicator}
use Rattle.indicator.specs.declared.Indicator.TheVariants.{Same, Change, Long}
use Rattle.indicator.specs.Indicator.{indicator_at, width_of, after_field, after_word, after_all}
use Rattle.word.proofs.Lists.{range_turn, range_end}

pub width_most : (m : Indicator) → width_of m ≤ 13
width_most Same = omega arith
width_most (Change t) = omega arith
width_most (Long x) = omega arith

pub after_field_most : (bits : List ℕ) (p f : ℕ) → after_field bits p f ≤ p + 13
unfolding after_field
after_field_most bits p f = omega (arith, width_most (indicator_at bits p f))

pub after_word_most : (bits : List ℕ) (p w : ℕ) → after_word bits p w ≤ p + 26
unfolding after_word
after_word_most bits p w =
    let q = after_field bits p (field_of Left w) in
    omega (arith, after_field_most bits p (field_of Left w), after_field_most bits q (field_of Right w))

-- a turn of a loop over the words from place i up to place last takes one word's indicators; at the end the place stays
module _ (bits : List ℕ) (p : ℕ) (block : List ℕ) (i last : ℕ) where
  pub after-all_turn : i < last → last ≤ length block
      → after_all bits p (range block i (last - i)) ≡ after_all bits (after_word bits p (get_or block i 0))
      (range block (i + 1) (last - (i + 1)))
  unfolding after_all
  after-all_turn h k = rw (range_turn block i last h k)

  pub after-all_end : last ≤ i → after_all bits p (range block i (last - i)) ≡ p
  unfolding after_all
  after-all_end h = rw (range_end block i last h)
