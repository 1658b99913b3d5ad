-- How the code goes about the checksum: one pass adds all the words with no carry taken out, and what ran over bit 35 is added back
-- afterwards. That this gives the checksum is `sealed_total` (proofs/Checksum.antt). A reader who wants the rules skips this file.
use Rattle.std.specs.Prelude.{ℕ, zero, suc, ◌+◌, List, [], ◌∷◌, ◌++◌, drop, Result, Ok, Err}
use Rattle.word.specs.Lists.{range}
use Rattle.word.specs.Fault.{fault, unless}
use Rattle.word.specs.declared.Fault.{Fault}
use Rattle.block.specs.Checksum.{carried_round, folded}
use Rattle.block.specs.Block.{whole_block}

-- the plain sum of words
unfoldable pub total : List ℕ → ℕ
total [] = 0
total (w ∷ ws) = w + total ws

-- what a pass over words lent as a block finds: their plain sum, or 11
unfoldable pub summed : List ℕ → Result ℕ Fault
summed block = unless (whole_block block) (Err (fault 11)) (Ok (total block))

-- a plain sum carried round n times
unfoldable pub rounds : ℕ → ℕ → ℕ
rounds zero s = s
rounds (suc n) s = rounds n (carried_round s)

-- the checksum of words, from their plain sum: carried round twice, one below 2^64 is below 2^36
unfoldable pub seal_of : ℕ → ℕ
seal_of s = folded (carried_round (carried_round s))

-- the pass takes a word of each quarter of the block in a turn; from word i of each on, these words are left
abbrev pub quarter : ℕ
quarter = 64

abbrev pub quarters : List ℕ
quarters = 0 ∷ 64 ∷ 128 ∷ 192 ∷ []

unfoldable pub left_of : List ℕ → List ℕ → ℕ → List ℕ
left_of [] block i = []
left_of (a ∷ starts) block i = drop i (range block a quarter) ++ left_of starts block i
