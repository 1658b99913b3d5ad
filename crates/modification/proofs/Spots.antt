-- The word that holds a table's minimum length is one of the entry words of one of the modification blocks, and the one that
-- the count of words says.
use Prim.Native.Nat.{ℕ, ◌+◌, ◌-◌, ◌*◌, ◌≤◌, ◌<◌}
use mathlib.Core.Path.{◌≡◌}
use native.Mathlib.Omega.{arith}
use Rattle.word.specs.declared.Reference.{Reference}
use Rattle.modification.specs.Entries.{entry_words_in_block, entry_words, entry_blocks, length_word, length_spot}

module _ (io tables : ℕ) (t : Reference) where
  pub spot_place : entry_words_in_block * (length_spot io t).block + ((length_spot io t).word - 1) ≡ length_word io t
  spot_place = omega arith

  pub spot_word : (1 ≤ (length_spot io t).word) × ((length_spot io t).word ≤ entry_words_in_block)
  spot_word = (omega arith, omega arith)

  pub length_word_in : t.0 < tables → length_word io t < entry_words io tables
  length_word_in h = omega arith

  pub spot_block : t.0 < tables → (length_spot io t).block < entry_blocks io tables
  spot_block h = omega arith
