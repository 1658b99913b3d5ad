-- `front::check_modifications` meets its contract: at every turn the blocks passed are right.
use mathlib.Core.Path.{◌≡◌}
use Rattle.word.specs.Fault.{pass}
use Rattle.front.specs.Front.{modifications_to}
use Rattle.front.proofs.check_modifications.Given as goal

abbrev pub invariant-loop-i : goal.invariant-loop-i
invariant-loop-i l = modifications_to l.blocks l.i ≡ pass
