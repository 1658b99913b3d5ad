-- `refusals::first_fault`: no word before is refused, so the words that are left tell the first refusal.
use Rattle.field.specs.Field.{assigned_by}
use Rattle.group.proofs.FirstFault.{Looks}
use Rattle.group.proofs.refusals.first_fault.Given as goal

abbrev pub invariant-loop-k : goal.invariant-loop-k
invariant-loop-k l = Looks (assigned_by l.s l.lists) l.words l.n l.c l.k
