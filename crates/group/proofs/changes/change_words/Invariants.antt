-- `changes::change_words`: what is left to do after some words is what there was to do.
use Prim.Native.Nat.{◌-◌}
use Rattle.field.specs.Field.{assigned_by}
use Rattle.group.specs.HowLoop.{Reached}
use Rattle.group.specs.HowWords.{program_in}
use Rattle.group.proofs.changes.change_words.Given as goal

abbrev pub invariant-loop-k : goal.invariant-loop-k
invariant-loop-k l = Reached (assigned_by l.s l.lists) l.words l.n (program_in l.words l.n) l.out l.c l.k

abbrev pub decreases-loop-k : goal.decreases-loop-k
decreases-loop-k l = l.n - l.k
