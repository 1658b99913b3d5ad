-- `book::mark` meets its contract: at every turn the places passed are marked that have the tag.
use mathlib.Core.Path.{◌≡◌}
use Rattle.book.proofs.Marking.{marked_to}
use Rattle.book.proofs.mark.Given as goal

abbrev pub invariant-loop-j : goal.invariant-loop-j
invariant-loop-j l = l.marks ≡ marked_to l.tags l.tag l.value l.initial.marks l.j
