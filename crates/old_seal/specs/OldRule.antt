-- The checksum before #104, as 01 has it: "Sum the other 255 words, drop overflow above bit 35". The loader knows it no more; a
-- block that was sealed by it can be resealed, and that is all that it is here for.
use Rattle.std.specs.Prelude.{ℕ, ◌+◌, ◌%◌, Bool, false, ◌||◌, List, [], ◌∷◌, leb}
use Rattle.word.specs.Word.{word_limit}
use Rattle.block.specs.Checksum.{added, sum_of, folded}

-- a word added to a sum: what runs over bit 35 is dropped
abbrev pub old_added : ℕ → ℕ → ℕ
old_added s w = (s + w) % word_limit

unfoldable pub old_checksum : List ℕ → ℕ
old_checksum ws = folded (sum_of old_added 0 ws)

-- a carry out of bit 35 arises where these words are added to the sum s, one after another
unfoldable pub carries : ℕ → List ℕ → Bool
carries s [] = false
carries s (w ∷ ws) = leb word_limit (s + w) || carries (added s w) ws
