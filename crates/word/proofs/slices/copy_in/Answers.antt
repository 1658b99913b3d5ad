-- `word::slices::copy_in` meets its contract: by the loop's invariant.
use mathlib.Core.Path.{refl}
use native.Mathlib.Omega.{arith}
use Rattle.word.proofs.Lists.{copied_none, copied_more, copied_all}
use Rattle.word.proofs.slices.copy_in.Goals as goal

pub loop-i-init : goal.loop-i-init
loop-i-init c = copied_none _ _ _

pub loop-i-preserved : goal.loop-i-preserved
loop-i-preserved c = copied_more _ _ _ _ _ _ (omega arith) (omega arith) refl c.loop-i.invariant

pub returns : goal.returns
returns c = copied_all _ _ _ _ _ (omega arith) c.loop-i.invariant
