-- The four records of a program file: where a block of each has its checksum word, and by what word it is known.
use Rattle.std.specs.Prelude.{ℕ, Bool, true, List, [], ◌∷◌, ◌==◌, slice_index}
use Rattle.block.specs.Fieldata.{asterisk, letter, spelt}
use Rattle.block.specs.declared.Record.{Record}
use Rattle.block.specs.declared.Record.TheVariants.{Label, Modification, Program, Termination}

-- "The checksum word is word 254 of the label and word 255 elsewhere."
abbrev pub checksum_place : Record → ℕ
checksum_place Label = 254
checksum_place Modification = 255
checksum_place Program = 255
checksum_place Termination = 255

-- *MODRC, *PRORC and *TRMRC, from their letters
unfoldable pub modification : ℕ
modification = spelt 0 (asterisk ∷ letter 13 ∷ letter 15 ∷ letter 4 ∷ letter 18 ∷ letter 3 ∷ [])

unfoldable pub program : ℕ
program = spelt 0 (asterisk ∷ letter 16 ∷ letter 18 ∷ letter 15 ∷ letter 18 ∷ letter 3 ∷ [])

unfoldable pub termination : ℕ
termination = spelt 0 (asterisk ∷ letter 20 ∷ letter 18 ∷ letter 13 ∷ letter 18 ∷ letter 3 ∷ [])

-- a block is of a record by its first word; "A label is known by its place alone and never gives 13"
abbrev pub of_record : Record → List ℕ → Bool
of_record Label block = true
of_record Modification block = slice_index block 0 == modification
of_record Program block = slice_index block 0 == program
of_record Termination block = slice_index block 0 == termination
