-- What is read of a load's lists in their one slice: how many there are, each by its number, and no number is too large.
use Rattle.std.proofs.Common.{◌≡◌, ℕ, ◌<◌, true, List, length, get_or, ◌∙◌, arith}
use Rattle.word.specs.Lists.{every}
use Rattle.word.proofs.Lists.{length-range}
use Rattle.lists.specs.declared.Given.{Given}
use Rattle.lists.specs.declared.Table.{Table}
use Rattle.lists.specs.Load.{ios_in, words_in, ranks_in, core_table, core_tables, io_numbers, ranks_place, Readable}
use Rattle.lists.specs.Obey.{is_io_number}
use Rattle.lists.proofs.Kept.{SmallTable, numbers-length, numbers_obey, tables-length, tables-at, table_below}

module _ (g : Given) (l : List ℕ) where
  pub io-length : length (io_numbers g l) ≡ g.io
  unfolding io_numbers
  io-length = numbers-length (ios_in l) g.io

  pub io_obey : every is_io_number (io_numbers g l) ≡ true
  unfolding io_numbers
  io_obey = numbers_obey (ios_in l) g.io

  module _ (r : Readable g l) where
    ranks_length : length (ranks_in l g.tables) ≡ g.tables
    unfolding ranks_in
    ranks_length = length-range l ranks_place g.tables (omega arith)

    pub core-length : length (core_tables g l) ≡ g.tables
    unfolding core_tables
    core-length = tables-length g.area (words_in l g.kept) (ranks_in l g.tables) ∙ ranks_length

    pub core_at_lem : (k : ℕ) (d : Table) → k < g.tables → get_or (core_tables g l) k d ≡ core_table g l k
    unfolding core_tables core_table
    core_at_lem k d h =
        let e = ranks_length in
        tables-at g.area (words_in l g.kept) (ranks_in l g.tables) k d (omega arith)

    pub core_below : (k : ℕ) → SmallTable (core_table g l k)
    unfolding core_table
    core_below k = table_below g.area (words_in l g.kept) (ranks_in l g.tables) k (omega arith)
