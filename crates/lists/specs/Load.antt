-- What a load was given at open, and how it stands in the numbers that the desk keeps of its lists: 32 for the I/O numbers, four
-- to a word; 128 for the kept words of its tables; 128 for the tables' ranks. A further list would stand after these.
use Rattle.std.specs.Prelude.{◌≡◌, ℕ, ◌+◌, ◌≤◌, true, List, length}
use Rattle.word.specs.declared.Area.{Area}
use Rattle.word.specs.Limits.{io_most, tables_most, core_most}
use Rattle.word.specs.Lists.{range, splice}
use Rattle.lists.specs.declared.Given.{Given}
use Rattle.lists.specs.declared.Table.{Table}
use Rattle.lists.specs.HowKeep.{numbers_kept, words_kept, ranks_kept}
use Rattle.lists.specs.Obey.{tables_of, lists_obey}
use Rattle.lists.specs.HowKept.{numbers_in, table_at, tables_in}

-- what a load was given: its area, its core tables, and the number of each of its I/O references
pub record Load : Type 0 where
  pub area : Area
  pub tables : List Table
  pub ios : List ℕ

-- ---- where its lists stand
abbrev pub io_words : ℕ
io_words = 32

abbrev pub words_place : ℕ
words_place = io_words

abbrev pub ranks_place : ℕ
ranks_place = words_place + tables_most

abbrev pub list_words : ℕ
list_words = ranks_place + tables_most

unfoldable pub ios_in : List ℕ → List ℕ
ios_in l = range l 0 io_words

unfoldable pub words_in : List ℕ → ℕ → List ℕ
words_in l n = range l words_place n

unfoldable pub ranks_in : List ℕ → ℕ → List ℕ
ranks_in l n = range l ranks_place n

-- ---- read back, g saying how many there are
unfoldable pub core_tables : Given → List ℕ → List Table
core_tables g l = tables_in g.area (words_in l g.kept) (ranks_in l g.tables)

-- table k of them
unfoldable pub core_table : Given → List ℕ → ℕ → Table
core_table g l k = table_at g.area (words_in l g.kept) (ranks_in l g.tables) k

unfoldable pub io_numbers : Given → List ℕ → List ℕ
io_numbers g l = numbers_in (ios_in l) g.io

abbrev pub load_of : Given → List ℕ → Load
load_of g l = record { area = g.area; tables = core_tables g l; ios = io_numbers g l }

-- ---- as open keeps lists that are lent to it: what stands past each of them is as it was
abbrev pub given_by : Area → List ℕ → List ℕ → Given
given_by area ios tables = record {
  area = area;
  io = length ios;
  tables = length (tables_of tables);
  kept = length (words_kept (tables_of tables));
}

unfoldable pub kept_lists : List ℕ → List ℕ → List ℕ → List ℕ
kept_lists ios tables l =
    splice (splice (splice l
    0 (numbers_kept ios))
    words_place (words_kept (tables_of tables)))
    ranks_place (ranks_kept (tables_of tables))

-- "copies the lists": what is kept reads back as what was lent, wherever refusal 8 is not given (`kept_back`, proofs/Back.antt)
abbrev pub ReadsBack : Area → List ℕ → List ℕ → List ℕ → Type 0
ReadsBack area ios tables l =
    load_of (given_by area ios tables) (kept_lists ios tables l) ≡ record { area = area; tables = tables_of tables; ios = ios }

-- what has been seen to before they are kept: w are the words that are kept for the tables
pub record Keepable (area : Area) (ios tables w l : List ℕ) : Type 0 where
  pub long : length l ≡ list_words
  pub small : area.at.0 + area.size ≤ core_most
  pub obey : lists_obey area ios tables ≡ true
  pub words : w ≡ words_kept (tables_of tables)

-- ---- what has been seen to before they are read
pub record Readable (g : Given) (l : List ℕ) : Type 0 where
  pub long : length l ≡ list_words
  pub io : g.io ≤ io_most
  pub tables : g.tables ≤ tables_most
  pub kept : g.kept ≤ tables_most
  pub small : g.area.at.0 + g.area.size ≤ core_most
