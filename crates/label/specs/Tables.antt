-- The tables that a label names: "Words from 4: table type in bits 35-32, entries in bits 8-0." What the house asks of them is said
-- of one table and those before it, a line for each clause, in `table_stands`; where it does not hold of one, the fault is 15 at the
-- word of the first such table.
use Rattle.std.specs.Prelude.{ℕ, suc, ◌+◌, Bool, cond, not, ◌&&◌, ◌||◌, List, [], ◌∷◌, length, get_or, take, eqb, ltb, leb}
use Rattle.word.specs.Word.{bits}
use Rattle.word.specs.Fault.{fault, further}
use Rattle.word.specs.Lists.{every, first_not, tab}
use Rattle.word.specs.Limits.{io_most, tables_most}
use Rattle.word.specs.declared.Fault.{Fault}
use Rattle.label.specs.declared.Counts.{Counts}

-- a table as its word names it: its type, and how many entries it has
pub record TableWord : Type 0 where
  pub type : ℕ
  pub entries : ℕ

abbrev pub table_word : ℕ → TableWord
table_word w = record { type = bits 35 32 w; entries = bits 8 0 w }

-- the tables of n words from word 4 on
unfoldable pub table_words_in : List ℕ → ℕ → List TableWord
table_words_in block n = tab (λ i. table_word (get_or block (4 + i) 0)) n

-- "Word 3: .. bits 28-18 count tables"
unfoldable pub table_words : List ℕ → List TableWord
table_words block = table_words_in block (bits 28 18 (get_or block 3 0))

-- House: "table types carried are 0 (jump switch), 2 (channel), 3 (unit) and 12 (core)". Said here and nowhere else
abbrev pub switch_type : ℕ
switch_type = 0

abbrev pub channel_type : ℕ
channel_type = 2

abbrev pub unit_type : ℕ
unit_type = 3

abbrev pub core_type : ℕ
core_type = 12

unfoldable pub is_carried : ℕ → Bool
is_carried t = eqb t switch_type || (eqb t channel_type || (eqb t unit_type || eqb t core_type))

-- the clauses of the tables themselves
abbrev pub carries : TableWord → Bool
carries x = is_carried x.type

abbrev pub rises : TableWord → TableWord → Bool
rises x y = ltb x.type y.type

abbrev pub has_entries : TableWord → Bool
has_entries x = not (eqb x.entries 0)

-- how many entries the tables of type t have
abbrev pub entries_if : ℕ → TableWord → ℕ
entries_if t x = cond (eqb x.type t) x.entries 0

unfoldable pub entries_of : ℕ → List TableWord → ℕ
entries_of t [] = 0
entries_of t (x ∷ xs) = entries_if t x + entries_of t xs

unfoldable pub counts_of : List TableWord → Counts
counts_of ts = record {
  switches = entries_of switch_type ts;
  channels = entries_of channel_type ts;
  units = entries_of unit_type ts;
  tables = entries_of core_type ts;
}

-- the most entries of types 0 and 2; those of types 0, 2 and 3 are `io_most`, those of type 12 `tables_most`
abbrev pub channels_most : ℕ
channels_most = 16

-- "Types 0 and 2 together have at most 16 entries"; "with type 3 at most 128"; "type 12 has at most 128"
unfoldable pub within_limits : Counts → Bool
within_limits c =
    leb (c.switches + c.channels) channels_most
    && (leb (c.switches + c.channels + c.units) io_most
    && leb c.tables tables_most)

-- table number j; past the last, one of no entries
abbrev pub table_at : List TableWord → ℕ → TableWord
table_at ts j = get_or ts j (table_word 0)

-- table number j stands: "table types carried ..": its is one; "in rising order, none twice": it is above each before it; "none
-- with 0 entries"; and with it those counted so far are within the limits
unfoldable pub table_stands : List TableWord → ℕ → Bool
table_stands ts j =
    carries (table_at ts j)
    && (every (λ x. rises x (table_at ts j)) (take j ts)
    && (has_entries (table_at ts j)
    && within_limits (counts_of (take (suc j) ts))))

-- the number of the first table that does not stand; where all do, how many there are
unfoldable pub first_table : List TableWord → ℕ
first_table ts = first_not (table_stands ts) (length ts)

unfoldable pub tables_stand : List TableWord → Bool
tables_stand ts = eqb (first_table ts) (length ts)

-- 15 at the word of that table, the table words counted from 0
abbrev pub table_fault : List TableWord → Fault
table_fault ts = further (first_table ts) (fault 15)
