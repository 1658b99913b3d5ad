-- `book::write_pairs` meets its contract: at every turn the numbers of the pairs passed are written.
use mathlib.Core.Path.{refl}
use native.Mathlib.Omega.{arith}
use Rattle.book.proofs.Marking.{mark_some, pairs_none, pairs_more, pairs_all}
use Rattle.book.proofs.write_pairs.Goals as goal

pub loop-t-init : goal.loop-t-init
loop-t-init c = pairs_none _ _ _

pub overflow_sub-list : goal.overflow_sub-list
overflow_sub-list c = mark_some _ c.loop-t.t c.requires.first (omega arith)

pub overflow_sub-list-in-loop-t : goal.overflow_sub-list-in-loop-t
overflow_sub-list-in-loop-t c = mark_some _ c.loop-t.t c.requires.second (omega arith)

pub loop-t-preserved : goal.loop-t-preserved
loop-t-preserved c = let l = c.loop-t in pairs_more _ _ _ l.t _ _ _ (omega arith) refl refl l.invariant

pub returns : goal.returns
returns c = let l = c.loop-t in pairs_all _ _ _ l.t _ (omega arith) (omega arith) l.invariant
