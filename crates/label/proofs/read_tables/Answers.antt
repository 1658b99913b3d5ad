-- `label::read_tables` meets its contract: at every turn the tables read so far stand, and are counted. The measure is how many are
-- left.
use mathlib.Core.Path.{sym, ◌∙◌}
use native.Mathlib.Omega.{arith}
use Rattle.label.proofs.TableTurns.{of_bad, read_none, word_short, word_more, word_bad, word_all}
use Rattle.label.proofs.read_tables.Goals as goal

pub loop-i-init : goal.loop-i-init
loop-i-init c = (omega arith, read_none _)

pub overflow_add-w : goal.overflow_add-w
overflow_add-w c =
    let l = c.loop-i in
    let b = c.args.block.now in
    omega (arith, word_short b l.i l.least l.c l.invariant.1 l.invariant.0)

pub bounds-block-i : goal.bounds-block-i
bounds-block-i c =
    let l = c.loop-i in
    let b = c.args.block.now in
    omega (arith, word_short b l.i l.least l.c l.invariant.1 l.invariant.0)

pub read_table-requires : goal.read_table-requires
read_table-requires c = c.loop-i.invariant.1.within

pub loop-i-preserved : goal.loop-i-preserved
loop-i-preserved c =
    let l = c.loop-i in
    let r = word_more _ l.i l.least l.c l.invariant.1 _ (omega arith)
    (sym c.read_table.ensures ∙ c.in-Ok.is) in
    (omega arith, rw c.bits-least.ensures r)

pub further-requires : goal.further-requires
further-requires c =
    let e = of_bad _ _ _ _ (sym c.read_table.ensures ∙ c.in-Err.is) in
    rw e.1 (omega arith)

pub returns-in-Err : goal.returns-in-Err
returns-in-Err c =
    let l = c.loop-i in
    rw c.further.ensures
    (word_bad _ l.i l.least l.c l.invariant.1 _ (omega arith)
    (sym c.read_table.ensures ∙ c.in-Err.is))

pub returns : goal.returns
returns c =
    let l = c.loop-i in
    word_all _ l.i l.least l.c l.invariant.1 (omega arith)
