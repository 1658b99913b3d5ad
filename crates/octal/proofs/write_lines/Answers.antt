-- `octal::write_lines` meets its contract: by the loop's invariant.
use mathlib.Core.Path.{◌∙◌}
use native.Mathlib.Omega.{arith}
use Rattle.octal.proofs.Written.{written_none, written_more, written_all}
use Rattle.octal.proofs.write_lines.Goals as goal

pub loop-i-init : goal.loop-i-init
loop-i-init c = written_none _ _

pub loop-i-preserved : goal.loop-i-preserved
loop-i-preserved c = let l = c.loop-i in c.write_line.ensures ∙ written_more _ _ l.i _ (omega arith) l.invariant

pub returns : goal.returns
returns c = let l = c.loop-i in written_all _ _ l.i _ (omega arith) (omega arith) l.invariant
