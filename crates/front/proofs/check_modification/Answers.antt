-- `front::check_modification` meets its contract: one law for each way in which it ends.
use borrow.Author.Rules.{rules}
use mathlib.Core.Path.{sym, ◌∙◌}
use Rattle.front.proofs.Blocks.{missing, right_record, other_record, refused-block}
use native.Mathlib.Omega.{arith}
use Rattle.front.proofs.check_modification.Goals as goal

pub returns-then-blocks-i : goal.returns-then-blocks-i
returns-then-blocks-i c = missing _ _ _ c.wrong_record.ensures c.if-blocks-i.true

pub returns-then-of_record : goal.returns-then-of_record
returns-then-of_record c =
    right_record _ _ (omega arith) _ c.block_at-b.ensures
    (sym c.check_block.ensures ∙ c.in_ok-check_block.was)
    (sym c.if-of_record.true ∙ c.of_record.ensures)

pub returns-else-of_record : goal.returns-else-of_record
returns-else-of_record c =
    other_record _ _ (omega arith) _ c.block_at-b.ensures _ c.wrong_record-else-of_record.ensures
    (sym c.check_block.ensures ∙ c.in_ok-check_block.was)
    (sym c.if-of_record.false ∙ c.of_record.ensures)

pub returns-in_err-check_block : goal.returns-in_err-check_block
returns-in_err-check_block c =
    let f = refused-block _ _ (omega arith) _ c.block_at-b.ensures _ (sym c.check_block.ensures ∙ c.in_err-check_block.was) in
    search (rules, f)
