-- how the code goes, not a rule of 01
-- The tables of a label taken one after another: each is carried, has entries, its type is none below a least one, and with its
-- entries the counts are within the limits. That this tells of each table what `table_stands` tells is `stands_read` in
-- proofs/TableTurns.antt.
use Rattle.std.specs.Prelude.{ℕ, ◌+◌, ◌≤◌, ◌^◌, Bool, cond, ◌&&◌, List, leb, Result, Ok, Err}
use Rattle.word.specs.Fault.{fault}
use Rattle.label.specs.Tables.{TableWord, switch_type, channel_type, unit_type, core_type, is_carried, has_entries, entries_if}
use Rattle.label.specs.Tables.{counts_of, within_limits, tables_stand, table_fault}
use Rattle.label.specs.declared.Counts.{Counts}
use Rattle.word.specs.declared.Fault.{Fault}

-- a table that may come where the least type is given
unfoldable pub may_follow : ℕ → TableWord → Bool
may_follow least x = leb least x.type && (has_entries x && is_carried x.type)

-- counts, and the entries of one table more
unfoldable pub counted_with : Counts → TableWord → Counts
counted_with c x = record {
  switches = c.switches + entries_if switch_type x;
  channels = c.channels + entries_if channel_type x;
  units = c.units + entries_if unit_type x;
  tables = c.tables + entries_if core_type x;
}

unfoldable pub table_read : ℕ → Counts → TableWord → Result Counts Fault
table_read least c x =
    cond (may_follow least x) (cond (within_limits (counted_with c x)) (Ok (counted_with c x)) (Err (fault 15))) (Err (fault 15))

unfoldable pub tables_read : List TableWord → Result Counts Fault
tables_read ts = cond (tables_stand ts) (Ok (counts_of ts)) (Err (table_fault ts))

-- counts whose sums cannot wrap
pub record FewEntries (c : Counts) : Type 0 where
  pub switches : c.switches ≤ 2 ^ 16
  pub channels : c.channels ≤ 2 ^ 16
  pub units : c.units ≤ 2 ^ 16
  pub tables : c.tables ≤ 2 ^ 16
