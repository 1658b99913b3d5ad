-- `label::name::spell_word` meets its contract: by the loop's invariant.
use Prim.Native.Nat.{◌≤◌}
use mathlib.Core.Path.{◌≡◌}
use Rattle.block.specs.Fieldata.{characters}
use Rattle.label.specs.HowSpelling.{spelled}
use Rattle.label.proofs.name.spell_word.Given as goal

abbrev pub invariant-loop-n : goal.invariant-loop-n
invariant-loop-n l = (l.n ≤ 6) × (spelled l.initial.s (characters 6 l.w) ≡ spelled l.s (characters l.n l.w))

abbrev pub decreases-loop-n : goal.decreases-loop-n
decreases-loop-n l = l.n
