-- `calls::make::clear_places` meets its contract: after p turns the first p places are free.
use mathlib.Core.Path.{◌≡◌}
use lib.ListN.{length}
use Rattle.calls.specs.Make.{freed}
use Rattle.calls.proofs.make.clear_places.Given as goal

abbrev pub invariant-loop-p : goal.invariant-loop-p
invariant-loop-p l = (length l.desk ≡ length l.initial.desk) × (l.desk ≡ freed l.p l.initial.desk)
