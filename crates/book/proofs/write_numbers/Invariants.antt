-- `book::write_numbers` meets its contract: at every turn the numbers of the marks passed are written.
use mathlib.Core.Path.{◌≡◌}
use Rattle.book.proofs.Marking.{numbers_to}
use Rattle.book.proofs.write_numbers.Given as goal

abbrev pub invariant-loop-j : goal.invariant-loop-j
invariant-loop-j l = l.list ≡ numbers_to l.marks l.initial.list l.j
