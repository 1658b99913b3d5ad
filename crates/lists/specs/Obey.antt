-- Refusal 8 of the two lists that are lent to open: "over 128 entries, half a pair, an I/O number over 65,535, a table not inside
-- the area, or two tables sharing a word".
use Rattle.std.specs.Prelude.{ℕ, ◌*◌, ◌%◌, ◌^◌, Bool, ◌&&◌, List, [], ◌∷◌, length, ◌==◌, nat_le, nat_lt}
use Rattle.word.specs.declared.Area.{Area}
use Rattle.word.specs.Limits.{io_most, tables_most}
use Rattle.word.specs.Lists.{every, every_two}
use Rattle.word.specs.Runs.{within, apart}
use Rattle.lists.specs.declared.Table.{Table}

-- "for each core table its address and length": the tables of a lent list, a last half pair left out
unfoldable pub tables_of : List ℕ → List Table
tables_of [] = []
tables_of (a ∷ []) = []
tables_of (a ∷ n ∷ l) = record { at = record { 0 = a }; len = n } ∷ tables_of l

-- what stands at a place past the last table
abbrev pub no_table : Table
no_table = record { at = record { 0 = 0 }; len = 0 }

-- a table inside the area; an empty one may start at the area's end
unfoldable pub table_inside : Area → Table → Bool
table_inside area t = within t.at.0 t.len area.at.0 area.size

-- two tables that share no word; an empty one shares none with anything
unfoldable pub tables_apart : Table → Table → Bool
tables_apart t u = apart t.at.0 t.len u.at.0 u.len

-- what refusal 8 asks of the tables themselves, one by one and pair by pair
unfoldable pub tables_obey : Area → List Table → Bool
tables_obey area ts = every (table_inside area) ts && every_two tables_apart ts

-- "an I/O number over 65,535" is none
abbrev pub is_io_number : ℕ → Bool
is_io_number n = nat_lt n (2 ^ 16)

-- refusal 8 is not given
unfoldable pub lists_obey : Area → List ℕ → List ℕ → Bool
lists_obey area ios tables =
    nat_le (length ios) io_most
    && (nat_le (length tables) (2 * tables_most)
    && (length tables % 2 == 0
    && (every is_io_number ios
    && tables_obey area (tables_of tables))))

-- what it asks of the lists' lengths and of each entry by itself, all but that no two tables share a word
unfoldable pub entries_obey : Area → List ℕ → List ℕ → Bool
entries_obey area ios tables =
    nat_le (length ios) io_most
    && (nat_le (length tables) (2 * tables_most)
    && (length tables % 2 == 0
    && (every is_io_number ios
    && every (table_inside area) (tables_of tables))))
