-- The words that head a section (01, "Program blocks"). A word that is none of these where a section is due is refused with 17.
use Rattle.std.specs.Prelude.{ℕ, cond, eqb, Result, Ok, Err}
use Rattle.word.specs.Word.{bits}
use Rattle.word.specs.Fault.{fault}
use Rattle.word.specs.declared.Fault.{Fault}
use Rattle.program.specs.declared.Bank.{Bank}
use Rattle.program.specs.declared.Segment.{Segment}
use Rattle.program.specs.declared.TableSection.{TableSection}

-- "the end at word 254 closes the block": the last word that sections and groups may use
abbrev pub last_word : ℕ
last_word = 254

-- "In a bank word bits 35, 34, 17, 16 are zero, bits 33-18 the word count, bits 15-0 the relative address."
unfoldable pub bank_of : ℕ → Result Bank Fault
bank_of w =
    cond (eqb (bits 35 34 w) 0)
    (cond (eqb (bits 17 16 w) 0)
    (Ok (record { at = record { 0 = bits 15 0 w }; count = bits 33 18 w }))
    (Err (fault 17)))
    (Err (fault 17))

-- "Segment section, four words: IBANK, DBANK, two disregarded. IBANK count at least 1; DBANK may be 0."
abbrev pub with_dbank : Bank → Result Bank Fault → Result Segment Fault
with_dbank i (Ok d) = Ok (record { ibank = i; dbank = d })
with_dbank i (Err f) = Err f

abbrev pub with_ibank : Result Bank Fault → Result Bank Fault → Result Segment Fault
with_ibank (Ok i) d = cond (eqb i.count 0) (Err (fault 17)) (with_dbank i d)
with_ibank (Err f) d = Err f

unfoldable pub segment_of : ℕ → ℕ → Result Segment Fault
segment_of first second = with_ibank (bank_of first) (bank_of second)

-- "Table section, one word: bits 35-34 are 01, bits 33-18 a count from 1 .., bits 17-8 zero, bits 7-0 the table's number"
unfoldable pub table_section_of : ℕ → Result TableSection Fault
table_section_of w =
    cond (eqb (bits 35 34 w) 1)
    (cond (eqb (bits 17 8 w) 0)
    (cond (eqb (bits 33 18 w) 0)
    (Err (fault 17))
    (Ok (record { number = record { 0 = bits 7 0 w }; count = bits 33 18 w })))
    (Err (fault 17)))
    (Err (fault 17))
