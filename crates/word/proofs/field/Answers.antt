-- `word::field` meets its contract: each half by the bits that its field is.
use native.Mathlib.Omega.{arith}
use Rattle.word.proofs.field.Goals as goal

pub returns-in-Left : goal.returns-in-Left
returns-in-Left c = rw c.in-Left.is (omega arith)

pub returns-in-Right : goal.returns-in-Right
returns-in-Right c = rw c.in-Right.is (omega arith)
