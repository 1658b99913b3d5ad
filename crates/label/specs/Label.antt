-- The label, word by word in reading order, each rule beside the fault that is given where it is the first one broken: words 0 and
-- 1 the name (15), word 2 the type flag (14), the table words from word 4 on (15), the entry total of word 3 (15), which can be
-- compared only then, word 253 (15), word 255 (15). "Other bits are disregarded."
use Rattle.std.specs.Prelude.{ℕ, ◌+◌, ◌≤◌, Bool, ◌&&◌, List, ◌++◌, get_or, eqb, leb, Result, Ok, Err}
use Rattle.word.specs.Word.{bits, is_set}
use Rattle.word.specs.Fault.{fault, further, unless}
use Rattle.word.specs.Limits.{io_most, tables_most}
use Rattle.block.specs.Fieldata.{characters}
use Rattle.label.specs.Name.{is_name, name_fault}
use Rattle.label.specs.Tables.{table_words, tables_stand, table_fault, counts_of, channels_most}
use Rattle.label.specs.declared.Counts.{Counts}
use Rattle.label.specs.declared.Label.{Label}
use Rattle.word.specs.declared.Fault.{Fault}

-- words 0 and 1
abbrev pub name_of : List ℕ → List ℕ
name_of block = characters 6 (get_or block 0 0) ++ characters 6 (get_or block 1 0)

-- "Word 253: bits 33-18 segments, bits 15-0 table sections, rest zero." House: "the segment count is 1"; "table sections are no
-- more than core entries"
unfoldable pub program_word_fits : ℕ → ℕ → Bool
program_word_fits w tables =
    eqb (bits 35 34 w) 0
    && (eqb (bits 17 16 w) 0
    && (eqb (bits 33 18 w) 1
    && leb (bits 15 0 w) tables))

-- "The entry total must agree": "Word 3: .. bits 10-0 count entries"
abbrev pub total_of : Counts → ℕ
total_of c = c.switches + c.channels + c.units + c.tables

-- what is read after the table words, which count c. "Word 3: bit 35 set forbids longer tables". "Word 255 repeats word 0."
unfoldable pub finished : List ℕ → Counts → Result Label Fault
finished block c =
    unless (eqb (total_of c) (bits 10 0 (get_or block 3 0))) (Err (further 3 (fault 15)))
    (unless (program_word_fits (get_or block 253 0) c.tables) (Err (further 253 (fault 15)))
    (unless (eqb (get_or block 255 0) (get_or block 0 0)) (Err (further 255 (fault 15)))
    (Ok (record {
      switches = c.switches;
      channels = c.channels;
      units = c.units;
      tables = c.tables;
      exact = is_set 35 (get_or block 3 0);
      sections = bits 15 0 (get_or block 253 0);
    }))))

-- "Word 2 bits 35-33 are the type flag", which must be 001
unfoldable pub label_of : List ℕ → Result Label Fault
label_of block =
    unless (is_name (name_of block)) (Err (name_fault (name_of block)))
    (unless (eqb (bits 35 33 (get_or block 2 0)) 1) (Err (further 2 (fault 14)))
    (unless (tables_stand (table_words block)) (Err (further 4 (table_fault (table_words block))))
    (finished block (counts_of (table_words block)))))

-- how many entries are of types 0 and 2, and how many of types 0, 2 and 3: the I/O references
abbrev pub channel_count : Label → ℕ
channel_count l = l.switches + l.channels

abbrev pub io_count : Label → ℕ
io_count l = l.switches + l.channels + l.units

-- the house's limits, as facts of a label
pub record Carried (l : Label) : Type 0 where
  pub channels : channel_count l ≤ channels_most
  pub io : io_count l ≤ io_most
  pub core : l.tables ≤ tables_most
  pub sections : l.sections ≤ l.tables
