-- `changes::move_words`: a run of the commonest change leaves what the loop's turns leave.
use Prim.Native.Nat.{◌-◌, ◌<◌, ◌≤◌}
use mathlib.Core.Path.{◌≡◌}
use Rattle.field.specs.Field.{assigned_by}
use Rattle.group.specs.HowLoop.{Reached}
use Rattle.group.specs.HowWords.{program_in}
use Rattle.group.proofs.changes.move_words.Given as goal

abbrev pub invariant-loop-c : goal.invariant-loop-c
invariant-loop-c l = (l.initial.k ≤ l.k)
    × (28 < l.c.left)
    × (l.k ≡ l.initial.k → l.c ≡ l.initial.c)
    × (Reached (assigned_by l.s l.lists) l.words l.n (program_in l.words l.n) l.out l.c l.k)

abbrev pub decreases-loop-c : goal.decreases-loop-c
decreases-loop-c l = l.n - l.k
