-- How the code goes, not a rule of 01: the test of the words that are kept for a load's tables, one pass along them. That what
-- passes obeys refusal 8 is proved, so a sound desk is known without looking at every two tables.
use Rattle.std.specs.Prelude.{ℕ, ◌+◌, Bool, ◌&&◌, List, [], ◌∷◌, nat_le}
use Rattle.word.specs.declared.Area.{Area}
use Rattle.lists.specs.HowKept.{address_in, length_in}

-- each word's table starts at `end` or after, where `end` is the end of the one before it, and the last ends at `last` or before
unfoldable pub chain_from : ℕ → ℕ → List ℕ → Bool
chain_from end last [] = nat_le end last
chain_from end last (w ∷ ws) = nat_le end (address_in w) && chain_from (address_in w + length_in w) last ws

-- so from the area's address to its end
unfoldable pub chain : Area → List ℕ → Bool
chain area ws = chain_from area.at.0 (area.at.0 + area.size) ws
