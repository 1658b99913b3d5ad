-- `front::read_label_block` meets its contract: by the block's verdict.
use mathlib.Core.Path.{sym, ◌∙◌}
use borrow.Author.Rules.{rules}
use Rattle.front.specs.Front.{label_block}
use Rattle.front.proofs.Blocks.{passed_long}
use Rattle.front.proofs.read_label_block.Goals as goal

pub read_label-requires : goal.read_label-requires
read_label-requires c = passed_long _ _ (sym c.check_block.ensures ∙ c.in-Ok.is)

pub returns-in-Err : goal.returns-in-Err
unfolding label_block
returns-in-Err c = search rules

pub returns-in-Ok : goal.returns-in-Ok
unfolding label_block
returns-in-Ok c = search rules
