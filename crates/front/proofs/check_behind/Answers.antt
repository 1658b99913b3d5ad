-- `front::check_behind` meets its contract: what is over, once the blocks that are due are right.
use borrow.Author.Rules.{rules}
use Rattle.front.specs.Front.{behind_label}
use Rattle.front.proofs.check_behind.Goals as goal

pub returns-in_err-check_modifications : goal.returns-in_err-check_modifications
unfolding behind_label
returns-in_err-check_modifications c = search rules

pub returns : goal.returns
unfolding behind_label
returns c = search rules
