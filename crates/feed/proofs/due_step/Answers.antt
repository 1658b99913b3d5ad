-- `feed::due_step`: by what is due.
use Rattle.feed.proofs.Waiting.{entry_block_small, label_met, entry_met}
use mathlib.Core.Path.{refl}
use mathlib.Core.Logic.{inl, inr}
use Rattle.feed.specs.Block.{due_step}
use Rattle.feed.proofs.due_step.Goals as goal

pub label_step-requires : goal.label_step-requires
label_step-requires c = let w = c.requires in (w.lists, w.waits.long)

pub entry_step-requires : goal.entry_step-requires
entry_step-requires c =
    let w = c.requires in
    record {
      lists = w.lists;
      few = entry_block_small _ _ _ _ _ _
          (rw c.in-Entry.is at w.waits);
      long = w.waits.long;
    }

pub program_step-requires : goal.program_step-requires
program_step-requires c =
    rw c.in-Program.is at
    c.requires

pub returns-in-Label : goal.returns-in-Label
returns-in-Label c =
    rw c.in-Label.is
    (label_met _ _ c.requires.lists _ _ _ c.label_step.ensures)

pub returns-in-Entry : goal.returns-in-Entry
returns-in-Entry c =
    rw c.in-Entry.is
    (entry_met _ _ c.requires.lists _ _ _ _ _ _ c.entry_step.ensures)

pub returns-in-Program : goal.returns-in-Program
unfolding due_step
returns-in-Program c = rw c.in-Program.is c.program_step.ensures

pub returns-in-Termination : goal.returns-in-Termination
unfolding due_step
returns-in-Termination c = rw c.in-Termination.is (record { told = c.termination_step.ensures; left = refl })

pub returns-in-Complete : goal.returns-in-Complete
unfolding due_step
returns-in-Complete c =
    elim c.in-Complete.is [
      | inl e ↦ rw e (record { told = refl; left = refl })
      | inr e ↦ rw e (record { told = refl; left = refl })
    ]
