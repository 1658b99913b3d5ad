-- `book::not_taken` meets its contract: each return by its test.
use mathlib.Core.Path.{sym, ◌∙◌}
use Rattle.book.specs.HowKept.{not_taken}
use Rattle.book.proofs.not_taken.Goals as goal

pub returns-then-all_in_file : goal.returns-then-all_in_file
unfolding not_taken
returns-then-all_in_file c = rw (sym c.all_in_file.ensures ∙ c.if-all_in_file.true)

pub returns : goal.returns
unfolding not_taken
returns c = rw (sym c.all_in_file.ensures ∙ c.if-all_in_file.false)
