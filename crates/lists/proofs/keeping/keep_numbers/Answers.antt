-- `lists::keeping::keep_numbers` meets its contract: at every turn the words before place i are those that are kept.
use Rattle.std.proofs.Common.{sym, ◌∙◌, arith}
use Rattle.word.proofs.Lists.{copied_none, copied_next, copied_all}
use Rattle.lists.proofs.Numbers.{fours_kept-length, fours_kept-at}
use Rattle.lists.proofs.keeping.keep_numbers.Goals as goal

pub loop-i-init : goal.loop-i-init
loop-i-init c = copied_none _ _ _

pub loop-i-preserved : goal.loop-i-preserved
loop-i-preserved c =
    let a = c.args in
    let e = fours_kept-length a.numbers.now a.n in
    copied_next _ _ c.loop-i.i _ _ (omega arith) (omega arith)
    (c.four_numbers.ensures ∙ sym (fours_kept-at a.numbers.now a.n c.loop-i.i (omega arith))) c.loop-i.invariant

pub returns : goal.returns
returns c =
    let a = c.args in
    let e = fours_kept-length a.numbers.now a.n in
    copied_all _ _ _ _ _ (omega arith) c.loop-i.invariant
