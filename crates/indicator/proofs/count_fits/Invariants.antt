-- `count_fits`: the cursor sees the group's bits, and the indicators of the words that are left, read from its place, end where
-- those of all words end.

use Rattle.indicator.proofs.Turns.{Counts}
use Rattle.indicator.proofs.count_fits.Given as goal

abbrev pub invariant-loop-k : goal.invariant-loop-k
invariant-loop-k l = Counts l.words l.n l.c l.k
