-- How the code goes, not a rule of 01: how a load's two lists are read from the numbers that the desk keeps of them. These have 64
-- bits each; whatever stands in them, every reading is defined.
use Rattle.std.specs.Prelude.{ℕ, ◌*◌, ◌/◌, ◌%◌, cond, List, length, ◌==◌, nat_lt, slice_index}
use Rattle.word.specs.declared.Area.{Area}
use Rattle.word.specs.Word.{part}
use Rattle.word.specs.Runs.{within}
use Rattle.lists.specs.declared.Table.{Table}
use Rattle.word.specs.Lists.{tab}

-- ---- "for each I/O reference its assigned number": 16 bits each, four to a word, the first lowest; this is number k
unfoldable pub number_in : List ℕ → ℕ → ℕ
number_in ws k = part (16 * (k % 4)) 16 (slice_index ws (k / 4))

-- the first n of them, in order
unfoldable pub numbers_in : List ℕ → ℕ → List ℕ
numbers_in ws n = tab (number_in ws) n

-- ---- "and for each core table its address and length": a word for each table that is not empty, in rising order, with the
-- table's address in bits 63-40, its number in bits 39-20 and its length in bits 19-0
abbrev pub address_in : ℕ → ℕ
address_in w = part 40 24 w

abbrev pub table_number_in : ℕ → ℕ
table_number_in w = part 20 20 w

abbrev pub length_in : ℕ → ℕ
length_in w = part 0 20 w

-- the table that such a word tells
unfoldable pub table_of : ℕ → Table
table_of w = record { at = record { 0 = address_in w }; len = length_in w }

-- and a word for every table, with its rank among those in bits 19-0, and where the table is empty its address in bits 63-20
abbrev pub rank_in : ℕ → ℕ
rank_in r = part 0 20 r

abbrev pub away_in : ℕ → ℕ
away_in r = part 20 44 r

-- an empty table at the address a, or at the area's address where a is not in the area
unfoldable pub empty_in : Area → ℕ → Table
empty_in area a = record { at = cond (within a 0 area.at.0 area.size) (record { 0 = a }) area.at; len = 0 }

-- table k by the word r that is kept for it: what the word at its rank tells, if there is one and it bears the number k; else
-- an empty table. So ranks need no test: a wrong one reads as an empty table.
unfoldable pub table_by : Area → List ℕ → ℕ → ℕ → Table
table_by area ws r k =
    cond (nat_lt (rank_in r) (length ws))
    (cond (table_number_in (slice_index ws (rank_in r)) == k)
    (table_of (slice_index ws (rank_in r)))
    (empty_in area (away_in r)))
    (empty_in area (away_in r))

-- table k of the lists
unfoldable pub table_at : Area → List ℕ → List ℕ → ℕ → Table
table_at area ws rs k = table_by area ws (slice_index rs k) k

-- all tables in order, one for each word of the ranks
unfoldable pub tables_in : Area → List ℕ → List ℕ → List Table
tables_in area ws rs = tab (table_at area ws rs) (length rs)
