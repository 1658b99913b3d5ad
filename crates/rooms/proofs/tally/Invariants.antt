-- `rooms::tally` meets its contract: after so many turns n has the counts of the first holders.
use mathlib.Core.Path.{◌≡◌}
use lib.ListN.{length}
use Rattle.rooms.proofs.Pass.{tallied_to}
use Rattle.rooms.proofs.tally.Given as goal

abbrev pub invariant-loop-h : goal.invariant-loop-h
invariant-loop-h l = record { slots : length l.n ≡ 10; counted : l.n ≡ tallied_to l.holders l.h-index }
