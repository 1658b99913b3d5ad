-- `items::program_step`: at every turn the items from place i on, onto the core as it is, give what the block gives.
use Prim.Native.Nat.{◌≤◌, ◌-◌}
use mathlib.Core.Path.{◌≡◌}
use lib.ListN.{length}
use Rattle.stage.specs.declared.Stage.TheVariants.{Program}
use Rattle.lists.specs.Load.{load_of}
use Rattle.sections.specs.Waits.{Waits}
use Rattle.sections.specs.Program.{program_from, program_step}
use Rattle.sections.proofs.items.program_step.Given as goal

abbrev pub invariant-loop-i : goal.invariant-loop-i
invariant-loop-i l = (l.i ≤ 255) × (length l.core ≡ length l.initial.core) × (Waits (load_of l.g l.lists) (Program l.counts l.next) l.block l.core)
    × (program_step (load_of l.g l.lists) l.initial.counts l.initial.next l.block l.initial.core ≡ program_from (255 - l.i) (load_of l.g l.lists) l.counts l.next l.block l.i l.core)

abbrev pub decreases-loop-i : goal.decreases-loop-i
decreases-loop-i l = 255 - l.i
