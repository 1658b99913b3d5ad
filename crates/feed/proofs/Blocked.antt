-- The laws of a block's step, from those of the four records.
use Prim.Native.Nat.{ℕ, ◌≤◌, ◌<◌}
use mathlib.Core.Path.{◌≡◌, refl}
use mathlib.Core.Bool.{Bool, true, false, cond}
use mathlib.Core.List.{List}
use mathlib.Core.Logic.{◌⊎◌, inl, inr}
use native.Mathlib.Omega.{arith}
use lib.ListN.{length, get_or}
use Rattle.word.specs.Fault.{fault}
use Rattle.word.specs.Sorts.{absolute_of}
use Rattle.word.specs.declared.Absolute.{Absolute}
use Rattle.word.specs.declared.Fault.{Fault}
use Rattle.word.proofs.Cases.{when}
use Rattle.block.specs.Records.{of_record}
use Rattle.label.proofs.Faults.{OfWhole, whole-at}
use Rattle.program.specs.declared.Bank.{Bank}
use Rattle.program.specs.Start.{start_of, in_bank}
use Rattle.stage.specs.declared.LabelCounts.{LabelCounts}
use Rattle.stage.specs.declared.Due.{Due}
use Rattle.stage.specs.declared.Stage.{Stage}
use Rattle.stage.specs.declared.Stage.TheVariants.{Label, Entry, Program, Termination, Complete, Broken}
use Rattle.stage.specs.Ranges.{stage_fits}
use Rattle.std.specs.Prelude.{Err}
use Rattle.stage.specs.Step.{StepResult, step_more, step_done}
use Rattle.stage.specs.Record.{record_due}
use Rattle.records.specs.Termination.{termination_step}
use Rattle.records.proofs.Fits.{label-fits, entry_fits_lem, label-not_done, entry_not_done, label-fault, entry_fault_lem, termination-fault}
use Rattle.records.proofs.Fits.{termination-not_more}
use Rattle.lists.specs.Load.{Load}
use Rattle.sections.specs.Program.{StepOutcome, program_step}
use Rattle.sections.proofs.Turns.{InPlace}
use Rattle.sections.proofs.Blocks.{program-fits, program-not_done, program_faults, program-length, program-area, program-same}
use Rattle.sections.proofs.Blocks.{program_words_lem, program_alike}
use Rattle.group.proofs.Acts.{Alike}
use Rattle.group.proofs.Stored.{StoredWords, stored-none}
use Rattle.feed.specs.Block.{stores_nothing, due_step, block_step}
use Rattle.feed.proofs.Laws.{FitToFeed, Holds, OfBlock, BlockLaws}

-- a record whose block is read whole stores nothing; a program block is read word by word. P speaks of the outcome as a function of
-- the core.
module _ (x : Load) (block : List ℕ) (P : (List ℕ → StepOutcome) → Type 0) (none : (r : StepResult) → P (stores_nothing r)) where
  due-cases : (s : Stage) → ((c : LabelCounts) (due : Due) → s ≡ Program c due → P (program_step x c due block))
      → P (due_step x s block)
  unfolding due_step
  due-cases Label k = none _
  due-cases (Entry c exact b) k = none _
  due-cases (Program c due) k = k c due refl
  due-cases (Termination i) k = none _
  due-cases Complete k = none _
  due-cases Broken k = none _

  block-cases : (s : Stage) → ((c : LabelCounts) (due : Due) → s ≡ Program c due → P (program_step x c due block))
      → P (block_step x s block)
  unfolding block_step
  block-cases s k = by_record (of_record (record_due s) block) (due-cases s k)
    where
      by_record : (b : Bool) → P (due_step x s block)
          → P (λ core. cond b (due_step x s block core) (stores_nothing (Err (fault 13)) core))
      by_record true h = h
      by_record false h = none (Err (fault 13))

-- a fault of a block that is read whole is of a word of it, and of no half
whole-block : (block : List ℕ) {low high : ℕ} (f : Fault) → 13 ≤ low → high ≤ 22 → (high < 19) ⊎ (21 < low) → OfWhole low high f
    → OfBlock block f
whole-block block f l h o p = record {
  least = omega (arith, p.least);
  most = omega (arith, p.most);
  place = record {
    inside = omega (arith, p.word);
    field = λ i j. absurd (apart p o i j);
    whole = λ q. (p.half, p.bit);
  };
}
  where
    apart : {low high : ℕ} (p : OfWhole low high f) → (high < 19) ⊎ (21 < low) → 19 ≤ f.number → f.number ≤ 21 → ⊥
    apart p (inl x) i j = omega (arith, p.most)
    apart p (inr x) i j = omega (arith, p.least)

-- ---- what it leads to
module _ (x : Load) (block core : List ℕ) where
  -- 13 comes before the record's own rules
  due-or_13 : (s : Stage) (P : StepResult → Type 0) → P (Err (fault 13)) → P (due_step x s block core).step
      → P (block_step x s block core).step
  unfolding block_step
  due-or_13 s P n k = by_record (of_record (record_due s) block)
    where
      by_record : (b : Bool) → P (cond b (due_step x s block core) (stores_nothing (Err (fault 13)) core)).step
      by_record true = k
      by_record false = n

  due-fits : (s t : Stage) → FitToFeed x s → (due_step x s block core).step ≡ step_more t
      → stage_fits x.area x.tables (length x.ios) t ≡ true
  unfolding due_step
  due-fits Label t f q = label-fits x.area x.tables x.ios block t q
  due-fits (Entry c exact b) t f q = entry_fits_lem x.area x.tables (length x.ios) c exact b block t f.stage q
  due-fits (Program c due) t f q = program-fits x block c due core t f.stage q
  due-fits (Termination i) t f q = absurd (termination-not_more x.area i block t q)
  due-fits Complete t f q = let e : Complete ≡ t = cc in rw (← e) f.stage
  due-fits Broken t f q = let e : Broken ≡ t = cc in rw (← e) f.stage

  due_faults : (s : Stage) (f : Fault) → (due_step x s block core).step ≡ Err f → OfBlock block f
  unfolding due_step
  due_faults Label f q =
      whole-block block f (omega arith) (omega arith) (inl (omega arith)) (label-fault x.ios (length x.tables) block f q)
  due_faults (Entry c exact b) f q =
      whole-block block f (omega arith) (omega arith) (inl (omega arith))
      (entry_fault_lem (length x.ios) x.tables c exact b block f q)
  due_faults (Program c due) f q =
      let k = program_faults x block c due core f q in
      record { least = omega (arith, k.0.0); most = omega (arith, k.0.1); place = k.1 }
  due_faults (Termination i) f q =
      whole-block block f (omega arith) (omega arith) (inr (omega arith)) (termination-fault x.area i block f q)
  due_faults Complete f q = let z : ◌≡◌ {A = ℕ} 0 1 = cc in absurd (omega arith)
  due_faults Broken f q = let z : ◌≡◌ {A = ℕ} 0 1 = cc in absurd (omega arith)

  termination_value : (i : Bank) (a : Absolute) → termination_step x.area i block ≡ step_done a
      → a ≡ absolute_of x.area (start_of block)
  unfolding termination_step
  termination_value i a =
      when (λ (r : StepResult). r ≡ step_done a → a ≡ absolute_of x.area (start_of block)) (in_bank i (start_of block)) (λ t q. cc)
      (λ t q. let z : ◌≡◌ {A = ℕ} 0 1 = cc in absurd (omega arith))

  due-starts : (s : Stage) (a : Absolute) → (due_step x s block core).step ≡ step_done a → a ≡ absolute_of x.area (start_of block)
  unfolding due_step
  due-starts Label a q = absurd (label-not_done x.ios (length x.tables) block a q)
  due-starts (Entry c exact b) a q = absurd (entry_not_done (length x.ios) x.tables c exact b block a q)
  due-starts (Program c due) a q = absurd (program-not_done x block c due core a q)
  due-starts (Termination i) a q = termination_value i a q
  due-starts Complete a q = let z : ◌≡◌ {A = ℕ} 0 1 = cc in absurd (omega arith)
  due-starts Broken a q = let z : ◌≡◌ {A = ℕ} 0 1 = cc in absurd (omega arith)

standing : (x : Load) (s : Stage) (c : LabelCounts) (due : Due) (core : List ℕ) → s ≡ Program c due → FitToFeed x s → Holds x core
    → InPlace x (Program c due) core
standing x s c due core e f h = record { inside = h; tables = f.tables; stage = rw e at f.stage }

pub block_laws : BlockLaws
block_laws = record {
  fits = λ x s t block core f. due-or_13 x block core s
      (λ (r : StepResult). r ≡ step_more t → stage_fits x.area x.tables (length x.ios) t ≡ true)
      (λ q. let z : ◌≡◌ {A = ℕ} 0 1 = cc in absurd (omega arith)) (due-fits x block core s t f);
  faults = λ x s block core f. due-or_13 x block core s (λ (r : StepResult). r ≡ Err f → OfBlock block f)
      (λ q. let e : fault 13 ≡ f = cc in
      rw (← e) (whole-block block (fault 13) (omega arith) (omega arith) (inl (omega arith)) (whole-at 13 13 13 0 (omega arith)
      (omega arith) (omega arith))))
      (due_faults x block core s f);
  long = λ x s block core f h. block-cases x block (λ (g : List ℕ → StepOutcome). length (g core).core ≡ length core) (λ r. refl) s
      (λ c due e. program-length x block c due core (standing x s c due core e f h));
  beside = λ x s block core f h j b. block-cases x block (λ (g : List ℕ → StepOutcome). get_or (g core).core j 0 ≡ get_or core j 0)
      (λ r. refl) s
      (λ c due e. program-area x block j b c due core (standing x s c due core e f h));
  same_step = λ x s block core other f h k. block-cases x block (λ (g : List ℕ → StepOutcome). (g core).step ≡ (g other).step)
      (λ r. refl) s
      (λ c due e. program-same x block c due core other (standing x s c due core e f h) (standing x s c due other e f k));
  same_words = λ x s block core other f h k a. block-cases x block
      (λ (g : List ℕ → StepOutcome). Alike x.area (g core).core (g other).core) (λ r. a) s
      (λ c due e. program_alike x block c due core other (standing x s c due core e f h) (standing x s c due other e f k) a);
  words = λ x s block core f h w. block-cases x block (λ (g : List ℕ → StepOutcome). StoredWords core (g core).core)
      (λ r. stored-none core) s
      (λ c due e. program_words_lem x block w c due core (standing x s c due core e f h));
  starts = λ x s block core a. due-or_13 x block core s (λ (r : StepResult). r ≡ step_done a → a ≡ absolute_of x.area (start_of block))
      (λ q. let z : ◌≡◌ {A = ℕ} 0 1 = cc in absurd (omega arith)) (due-starts x block core s a);
}
