-- `front::with_blocks` meets its contract: by the verdict on the blocks behind the label.
use borrow.Author.Rules.{rules}
use Rattle.front.proofs.with_blocks.Goals as goal

pub returns-in_err-check_behind : goal.returns-in_err-check_behind
returns-in_err-check_behind c = search rules

pub returns : goal.returns
returns c = search rules
