-- `book::kind_given` meets its contract: the marks of its stretch.
use mathlib.Core.Path.{ap, ◌∙◌}
use mathlib.Core.Bool.{not}
use Rattle.book.proofs.Chains.{none_zero}
use Rattle.book.proofs.kind_given.Goals as goal

pub returns : goal.returns
returns c = rw (← c.kept_of.ensures) (ap not c.contains.ensures.value ∙ none_zero _)
