-- `book::write_numbers` meets its contract: at every turn the numbers of the marks passed are written.
use mathlib.Core.Path.{refl}
use native.Mathlib.Omega.{arith}
use Rattle.book.proofs.Marking.{mark_some, numbers-none, numbers_more, numbers-all}
use Rattle.book.proofs.write_numbers.Goals as goal

pub loop-j-init : goal.loop-j-init
loop-j-init c = numbers-none _ _

pub overflow_sub-list : goal.overflow_sub-list
overflow_sub-list c = omega (arith, mark_some _ c.loop-j.j c.requires.1 (omega arith))

pub loop-j-preserved : goal.loop-j-preserved
loop-j-preserved c = let l = c.loop-j in numbers_more _ _ l.j _ _ (omega arith) refl l.invariant

pub returns : goal.returns
returns c = let l = c.loop-j in numbers-all _ _ l.j _ (omega arith) (omega arith) l.invariant
