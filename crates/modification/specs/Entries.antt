-- The modification record. "Words 1 to 254 hold entries, split across blocks where needed (001): two words for types 0, 2 and 3,
-- three for type 12. House: only the third word's bits 15-0 matter, the minimum length. .. With no entries there is no
-- modification block." The entries of types 0, 2 and 3 come first, so a core table's entry follows them and the tables before it.
use Rattle.std.specs.Prelude.{ℕ, ◌+◌, ◌-◌, ◌*◌, ◌/◌, ◌%◌, Bool, cond, eqb, leb}
use Rattle.word.specs.Word.{bits}
use Rattle.word.specs.declared.Reference.{Reference}
use Rattle.modification.specs.declared.Spot.{Spot}

-- the entry words of a modification block: words 1 to 254
abbrev pub entry_words_in_block : ℕ
entry_words_in_block = 254

-- how many words the entries of io I/O references and as many core tables take
abbrev pub entry_words : ℕ → ℕ → ℕ
entry_words io tables = 2 * io + 3 * tables

-- how many blocks hold them: none where there is no entry
abbrev pub entry_blocks : ℕ → ℕ → ℕ
entry_blocks io tables = (entry_words io tables + (entry_words_in_block - 1)) / entry_words_in_block

-- the first word of an entry, counted from 0 through all entry words: I/O reference r's, core table t's
abbrev pub io_entry : Reference → ℕ
io_entry r = 2 * r.0

abbrev pub core_entry : ℕ → Reference → ℕ
core_entry io t = 2 * io + 3 * t.0

-- the block, and the word of the block, at which the word so counted k stands
abbrev pub spot_of : ℕ → Spot
spot_of k = record { block = k / entry_words_in_block; word = k % entry_words_in_block + 1 }

-- the third word of table t's entry, and where it stands
abbrev pub length_word : ℕ → Reference → ℕ
length_word io t = core_entry io t + 2

abbrev pub length_spot : ℕ → Reference → Spot
length_spot io t = spot_of (length_word io t)

-- "only the third word's bits 15-0 matter, the minimum length"
abbrev pub minimum : ℕ → ℕ
minimum w = bits 15 0 w

-- "The assigned length must be at least this, and equal to it when the label's bit 35 is set (16)."
abbrev pub length_fits : Bool → ℕ → ℕ → Bool
length_fits noLongerTables least len = cond noLongerTables (eqb len least) (leb least len)
