-- how the code goes, not a rule of 01
-- The entries of a modification block taken one after another, up to the first that does not fit. That this is the one that the
-- definition means is `passed_fails` in proofs/Turns.antt.
use Rattle.std.specs.Prelude.{ℕ, Bool, cond, List, Err}
use Rattle.lists.specs.declared.Table.{Table as CoreTable}
use Rattle.records.specs.Entries.{entry_fits, first_entry, entries_fit, entry_fault}
use Rattle.word.specs.Fault.{Verdict, pass}

-- table t's
unfoldable pub entry_read : ℕ → List CoreTable → Bool → ℕ → List ℕ → ℕ → Verdict
entry_read io ts exact b block t = cond (entry_fits io ts exact b block t) pass (Err (entry_fault io t))

-- every table's
unfoldable pub entries_read : ℕ → List CoreTable → Bool → ℕ → List ℕ → Verdict
entries_read io ts exact b block = cond (entries_fit io ts exact b block) pass (Err (entry_fault io (first_entry io ts exact b block)))
