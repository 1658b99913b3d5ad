-- `book::write_pairs` meets its contract: at every turn the numbers of the pairs passed are written.
use mathlib.Core.Path.{◌≡◌}
use Rattle.book.proofs.Marking.{pairs_to}
use Rattle.book.proofs.write_pairs.Given as goal

abbrev pub invariant-loop-t : goal.invariant-loop-t
invariant-loop-t l = l.list ≡ pairs_to l.addresses l.lengths l.initial.list l.t
