-- What is known of a block's step, whatever it answers.
use Prim.Native.Nat.{ℕ, ◌+◌, ◌≤◌}
use mathlib.Core.Path.{◌≡◌}
use mathlib.Core.Bool.{true}
use mathlib.Core.List.{List}
use lib.ListN.{length, get_or}
use Rattle.word.specs.Lists.{every}
use Rattle.word.specs.Sorts.{absolute_of}
use Rattle.word.specs.Word.{is_word}
use Rattle.word.specs.declared.Absolute.{Absolute}
use Rattle.word.specs.declared.Fault.{Fault}
use Rattle.word.proofs.Stretch.{Beside}
use Rattle.program.specs.Start.{start_of}
use Rattle.lists.specs.Obey.{table_inside}
use Rattle.group.specs.Places.{Placed}
use Rattle.group.proofs.Acts.{Alike}
use Rattle.group.proofs.Stored.{StoredWords}
use Rattle.stage.specs.declared.Stage.{Stage}
use Rattle.stage.specs.Ranges.{stage_fits}
use Rattle.std.specs.Prelude.{Err}
use Rattle.stage.specs.Step.{step_more, step_done}
use Rattle.lists.specs.Load.{Load}
use Rattle.feed.specs.Block.{block_step}

-- the stage of a load is in range, and its tables lie in the area
pub record FitToFeed (x : Load) (s : Stage) : Type 0 where
  pub tables : every (table_inside x.area) x.tables ≡ true
  pub stage : stage_fits x.area x.tables (length x.ios) s ≡ true

-- the area lies in the core
abbrev pub Holds : Load → List ℕ → Type 0
Holds x core = x.area.at.0 + x.area.size ≤ length core

-- a fault of a block
pub record OfBlock (block : List ℕ) (f : Fault) : Type 0 where
  pub least : 13 ≤ f.number
  pub most : f.number ≤ 22
  pub place : Placed block f

pub record BlockLaws : Type 0 where
  pub fits : (x : Load) (s t : Stage) (block core : List ℕ) → FitToFeed x s → (block_step x s block core).step ≡ step_more t
      → stage_fits x.area x.tables (length x.ios) t ≡ true
  pub faults : (x : Load) (s : Stage) (block core : List ℕ) (f : Fault) → (block_step x s block core).step ≡ Err f
      → OfBlock block f
  pub long : (x : Load) (s : Stage) (block core : List ℕ) → FitToFeed x s → Holds x core
      → length (block_step x s block core).core ≡ length core
  pub beside : (x : Load) (s : Stage) (block core : List ℕ) → FitToFeed x s → Holds x core
      → (j : ℕ) → Beside j x.area.at.0 x.area.size → get_or (block_step x s block core).core j 0 ≡ get_or core j 0
  pub same_step : (x : Load) (s : Stage) (block core other : List ℕ) → FitToFeed x s → Holds x core → Holds x other
      → (block_step x s block core).step ≡ (block_step x s block other).step
  pub same_words : (x : Load) (s : Stage) (block core other : List ℕ) → FitToFeed x s → Holds x core → Holds x other
      → Alike x.area core other
      → Alike x.area (block_step x s block core).core (block_step x s block other).core
  -- what is stored is words below 2^36, where the block's are
  pub words : (x : Load) (s : Stage) (block core : List ℕ) → FitToFeed x s → Holds x core → every is_word block ≡ true
      → StoredWords core (block_step x s block core).core
  pub starts : (x : Load) (s : Stage) (block core : List ℕ) (a : Absolute) → (block_step x s block core).step ≡ step_done a
      → a ≡ absolute_of x.area (start_of block)
