-- `octal::write_line` meets its contract: by the loop's invariant.
use native.Mathlib.Omega.{arith}
use Rattle.word.proofs.Lists.{copied_none}
use Rattle.octal.proofs.Written.{line_more, line_end}
use Rattle.octal.proofs.write_line.Goals as goal

pub loop-i-init : goal.loop-i-init
loop-i-init c = copied_none _ _ _

pub loop-i-preserved : goal.loop-i-preserved
loop-i-preserved c = let l = c.loop-i in line_more _ _ _ l.i _ (omega arith) l.invariant _ (omega arith) c.digit_at.ensures

pub returns : goal.returns
returns c = let l = c.loop-i in line_end _ _ _ l.i _ (omega arith) l.invariant (omega arith)
