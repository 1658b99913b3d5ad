-- `book::take_records` meets its contract: at every turn the records passed have left their marks, and no two are for one tag.
use Rattle.book.specs.Book.{assignments_of}
use Rattle.book.proofs.Taking.{TakenTo}
use Rattle.book.proofs.take_records.Given as goal

abbrev pub invariant-loop-i : goal.invariant-loop-i
invariant-loop-i l = TakenTo (assignments_of l.book) l.l l.tags l.marks l.i
