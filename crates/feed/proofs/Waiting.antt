-- What a waiting load gives to the step of the record that is due.
use Prim.Native.Nat.{ℕ, ◌<◌}
use mathlib.Core.Path.{◌≡◌, refl}
use mathlib.Core.Bool.{Bool}
use mathlib.Core.List.{List}
use native.Mathlib.Omega.{arith}
use lib.ListN.{length}
use borrow.Author.Tests.{ltb-true}
use Rattle.word.proofs.Cases.{and_right}
use Rattle.lists.proofs.Reading.{core-length, io-length}
use Rattle.stage.specs.declared.LabelCounts.{LabelCounts}
use Rattle.stage.specs.declared.Stage.TheVariants.{Label, Entry}
use Rattle.stage.specs.Ranges.{label_counts_fit, stage_fits}
use Rattle.stage.specs.Step.{StepResult}
use Rattle.records.specs.Label.{label_step}
use Rattle.records.specs.Entries.{entry_step}
use Rattle.lists.specs.declared.Given.{Given}
use Rattle.lists.specs.Load.{Load, load_of, core_tables, io_numbers, Readable}
use Rattle.sections.specs.Waits.{Waits}
use Rattle.sections.specs.Program.{StepMeets}
use Rattle.feed.specs.Block.{due_step}

-- no block number wraps when it is counted on
pub entry_block_small : (x : Load) (c : LabelCounts) (exact : Bool) (b : ℕ) (block core : List ℕ)
    → Waits x (Entry c exact b) block core → b < 65536
unfolding stage_fits
entry_block_small x c exact b block core w =
    let q = ltb-true b _ (and_right (label_counts_fit (length x.ios) (length x.tables) c) _ w.stage) in
    omega (arith, q, w.io, w.few)

-- what the record's step answers is what is due
module _ (g : Given) (l : List ℕ) (readable : Readable g l) (block core : List ℕ) (r : StepResult) where
  pub label_met : r ≡ label_step (io_numbers g l) g.tables block → StepMeets (due_step (load_of g l) Label block core) r core
  unfolding due_step
  label_met e = record { told = rw (core-length g l readable) e; left = refl }

  pub entry_met : (c : LabelCounts) (exact : Bool) (b : ℕ) → r ≡ entry_step g.io (core_tables g l) c exact b block
      → StepMeets (due_step (load_of g l) (Entry c exact b) block core) r core
  unfolding due_step
  entry_met c exact b e = record { told = rw (io-length g l) e; left = refl }
