-- `front::check_over` meets its contract: one law for each way in which it ends.
use borrow.Author.Rules.{rules}
use mathlib.Core.Path.{sym, ◌∙◌}
use Rattle.front.proofs.Blocks.{none_over, over, refused_over}
use native.Mathlib.Omega.{arith}
use Rattle.front.proofs.check_over.Goals as goal

pub returns-then-blocks-i : goal.returns-then-blocks-i
returns-then-blocks-i c = none_over _ _ c.if-blocks-i.true

pub returns : goal.returns
returns c =
    over _ _ (omega arith) _ c.block_at.ensures _ c.wrong_record.ensures
    (sym c.check_block.ensures ∙ c.in_ok-check_block.was)

pub returns-in_err-check_block : goal.returns-in_err-check_block
returns-in_err-check_block c =
    let f = refused_over _ _ (omega arith) _ c.block_at.ensures _ (sym c.check_block.ensures ∙ c.in_err-check_block.was) in
    search (rules, f)
