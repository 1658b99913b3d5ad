-- Where a fault of a block can be (02, #105): its word lies in the block; a half is told for 19 to 21 and for no other; and then
-- the word is one of the program words of one of the block's groups, and the bit is where the half's indicator starts, among the
-- bits of that group's indicator words. Which of these places it is, the definitions say that say which refusal it is.
use Rattle.std.specs.Prelude.{ℕ, ◌+◌, ◌-◌, ◌*◌, ◌<◌, ◌≤◌, ◌≡◌, List, ◌⊎◌, get_or, take, Some, None}
use Rattle.word.specs.Limits.{words_in_block}
use Rattle.word.specs.Word.{word_bits, field_of}
use Rattle.word.specs.declared.Fault.{Fault}
use Rattle.word.specs.declared.Half.{Half}
use Rattle.word.specs.declared.Half.TheVariants.{Left, Right}
use Rattle.program.specs.declared.Group.{Group}
use Rattle.program.specs.Pieces.{HasGroup}
use Rattle.indicator.specs.Indicator.{after_field, after_all}
use Rattle.group.specs.Group.{program_words, indicator_bits_in}

-- "Each program word has a left indicator, then a right": where that of a half stands, the two of the word w starting at place p
abbrev pub half_place : List ℕ → ℕ → ℕ → Half → ℕ
half_place bits p w Left = p
half_place bits p w Right = after_field bits p (field_of Left w)

-- the same of word number k of the program words ws, whose indicators start at place p: how many bits stand before it, in the order
-- in which they are read
unfoldable pub indicator_place : List ℕ → ℕ → List ℕ → ℕ → Half → ℕ
indicator_place bits p ws k h = half_place bits (after_all bits p (take k ws)) (get_or ws k 0) h

-- the fault of a field: a group of the block, with its identifier's place; which of its program words; the half; and the bit
pub record InField (block : List ℕ) (f : Fault) : Type 0 where
  pub identifier : ℕ
  pub group : Group
  pub stands : HasGroup block identifier group
  pub number : ℕ
  pub few : number < group.program
  pub word : f.word ≡ identifier + 1 + number
  pub half : Half
  pub told : f.half ≡ Some half
  pub place : f.bit ≡ indicator_place (indicator_bits_in block identifier group) 0 (program_words block identifier group) number half
  pub bit : f.bit < word_bits * (group.words - group.program)

pub record Placed (block : List ℕ) (f : Fault) : Type 0 where
  pub inside : f.word < words_in_block
  pub field : 19 ≤ f.number → f.number ≤ 21 → InField block f
  pub whole : (f.number < 19) ⊎ (21 < f.number) → (f.half ≡ None) × (f.bit ≡ 0)
