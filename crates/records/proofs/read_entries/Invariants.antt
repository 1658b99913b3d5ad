-- `records::read_entries` meets its contract: at every turn the entries of the tables passed fit.
use Prim.Native.Nat.{◌≤◌, ◌-◌}
use Rattle.lists.specs.Load.{core_tables}
use Rattle.records.proofs.Turns.{PassedTo}
use Rattle.records.proofs.read_entries.Given as goal

abbrev pub invariant-loop-t : goal.invariant-loop-t
invariant-loop-t l = PassedTo l.g.io (core_tables l.g l.lists) l.exact l.b l.block l.t
