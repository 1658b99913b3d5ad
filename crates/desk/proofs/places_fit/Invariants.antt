-- `desk::places_fit` meets its contract: at every turn the places before the next one are looked at.
use mathlib.Core.Path.{◌≡◌}
use lib.ListN.{length}
use Rattle.desk.proofs.Looked.{LookedSo}
use Rattle.desk.proofs.places_fit.Given as goal

abbrev pub invariant-loop-p : goal.invariant-loop-p
invariant-loop-p l = record { rooms : length l.last ≡ 8; looked : LookedSo l.fn.desk l.fn.held l.p-index l.last }
