-- `lists::tables::gather` meets its contract: at every turn the rest of the tables completes the word.
use Rattle.std.proofs.Common.{ℕ, drop}
use Rattle.lists.specs.Obey.{tables_of}
use Rattle.lists.specs.HowTaking.{Gathered}
use Rattle.lists.proofs.tables.gather.Given as goal

abbrev pub invariant-loop-k : goal.invariant-loop-k
invariant-loop-k g l = (r : ℕ) → Gathered (goal.F-post g l.f) l.any (drop l.k (tables_of l.tables)) r
    → Gathered (goal.F-post g l.f) 0 (tables_of l.tables) r
