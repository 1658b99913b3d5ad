-- "Termination: word 1 bits 15-0 give the start, relative to the Program Name." A start that is not in the IBANK is 22.
use Rattle.std.specs.Prelude.{◌+◌, ℕ, Bool, false, cond, List, get_or, ltb}
use Rattle.word.specs.Word.{bits}
use Rattle.word.specs.declared.Relative.{Relative}
use Rattle.program.specs.declared.Bank.{Bank}

abbrev pub start_of : List ℕ → Relative
start_of block = record { 0 = bits 15 0 (get_or block 1 0) }

-- the address r is that of a word of the bank
unfoldable pub in_bank : Bank → Relative → Bool
in_bank b r = cond (ltb r.0 b.at.0) false (ltb r.0 (b.at.0 + b.count))
