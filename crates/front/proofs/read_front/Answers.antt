-- `front::read_front` meets its contract: by the label, and by what stands behind it.
use mathlib.Core.Path.{sym, ◌∙◌}
use borrow.Author.Tests.{eqb-true, eqb-false}
use borrow.Author.Rules.{rules}
use Rattle.front.proofs.Carried.{front-none, label-block-carried, front_good, front_bad}
use native.Mathlib.Omega.{arith}
use Rattle.front.proofs.read_front.Goals as goal

pub returns-then-is_empty : goal.returns-then-is_empty
returns-then-is_empty c = front-none _ (eqb-true _ 0 (sym c.is_empty.ensures ∙ c.if-is_empty.true))

pub with_blocks-requires : goal.with_blocks-requires
with_blocks-requires c = label-block-carried _ _ (sym c.read_label_block.ensures ∙ c.in_ok-l.was)

pub returns : goal.returns
returns c =
    front_good _ (omega (arith, eqb-false _ 0 (sym c.is_empty.ensures ∙ c.if-is_empty.false))) _ _
    (rw c.block_at.ensures at (sym c.read_label_block.ensures ∙ c.in_ok-l.was))
    c.with_blocks.ensures

pub returns-in_err-l : goal.returns-in_err-l
returns-in_err-l c =
    let f = front_bad _ (omega (arith, eqb-false _ 0 (sym c.is_empty.ensures ∙ c.if-is_empty.false))) _
    (rw c.block_at.ensures at (sym c.read_label_block.ensures ∙ c.in_err-l.was)) in
    search (rules, f)
