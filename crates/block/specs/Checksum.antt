-- The checksum (#104): "a carry out of bit 35 is added back at bit 0, each time one arises"; then, as 01 has it, "add the upper 18
-- bits of the result to the lower 18; the 19-bit result must equal the whole checksum word". What becomes of a carry stands in
-- `added` and nowhere else. How words are added, and the checksum of words, are handed to the definitions that go by them: the rule
-- before #104 (crate `old_seal`) differs in nothing else.
use Rattle.std.specs.Prelude.{ℕ, ◌+◌, ◌/◌, ◌%◌, Bool, List, [], ◌∷◌, ◌++◌, take, drop, ◌==◌, slice_index}
use Rattle.word.specs.Word.{word_limit, bits}

-- a sum with what runs over bit 35 added back at bit 0
abbrev pub carried_round : ℕ → ℕ
carried_round s = s % word_limit + s / word_limit

-- a word added to a sum; the carry of two words is 1 at most, and adding it back gives no other (`added_word`)
abbrev pub added : ℕ → ℕ → ℕ
added s w = carried_round (s + w)

-- words added to a sum, one after another, each by `add`
unfoldable pub sum_of : (ℕ → ℕ → ℕ) → ℕ → List ℕ → ℕ
sum_of add s [] = s
sum_of add s (w ∷ ws) = sum_of add (add s w) ws

-- the upper 18 bits of a sum and its lower 18, added
abbrev pub folded : ℕ → ℕ
folded s = bits 35 18 s + bits 17 0 s

-- the rule in force
unfoldable pub checksum : List ℕ → ℕ
checksum ws = folded (sum_of added 0 ws)

-- the words of a block but the one at place p
abbrev pub others : ℕ → List ℕ → List ℕ
others p block = take p block ++ drop (p + 1) block

-- the word at place p is the checksum of the others: where it is not, the refusal is 12
abbrev pub agrees : (List ℕ → ℕ) → ℕ → List ℕ → Bool
agrees checksumOf p block = checksumOf (others p block) == slice_index block p
