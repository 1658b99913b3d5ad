-- What a label or a modification block leads to: a stage whose numbers are in their ranges, or a fault at a word of
-- its block, never the start; and what a termination block leads to.
use Prim.Native.Nat.{ℕ, ◌+◌, ◌≤◌, ◌<◌}
use mathlib.Core.Path.{◌≡◌, refl}
use mathlib.Core.Bool.{Bool, true, false, cond, false≢true}
use mathlib.Core.List.{List}
use native.Mathlib.Omega.{arith}
use lib.ListN.{length}
use lib.Dec.{eqb, ltb}
use borrow.Author.Tests.{eqb-true, eqb-false, le-leb, lt-ltb, ltb-true, ltb-false}
use Rattle.word.specs.Fault.{fault, further}
use Rattle.word.specs.declared.Absolute.{Absolute}
use Rattle.word.specs.declared.Area.{Area}
use Rattle.word.specs.declared.Fault.{Fault}
use Rattle.word.specs.declared.Relative.{Relative}
use Rattle.word.proofs.Cases.{when, both, and_both, and_left, and_right}
use Rattle.label.specs.declared.Label.{Label}
use Rattle.std.specs.Prelude.{Result, Ok, Err}
use Rattle.label.specs.Label.{label_of, channel_count, io_count, Carried}
use Rattle.label.proofs.Carried.{label-carried}
use Rattle.label.proofs.Faults.{OfWhole, whole-at, whole_wider, label_faults}
use Rattle.lists.specs.declared.Table.{Table as CoreTable}
use Rattle.modification.specs.Assignments.{assignments_fit}
use Rattle.modification.specs.Entries.{entry_blocks}
use Rattle.program.specs.declared.Bank.{Bank}
use Rattle.program.specs.Start.{start_of, in_bank}
use Rattle.stage.specs.declared.LabelCounts.{LabelCounts}
use Rattle.stage.specs.declared.Stage.{Stage}
use Rattle.stage.specs.declared.Stage.TheVariants.{Entry}
use Rattle.stage.specs.Ranges.{label_counts_fit, due_fits, stage_fits}
use Rattle.records.specs.Label.{label_counts_of, after_label, with_label, label_step}
use Rattle.records.specs.Entries.{entries_fit, after_entries, entry_step}
use Rattle.records.specs.Termination.{termination_step}
use Rattle.stage.specs.Step.{StepResult, step_more, step_done}
use Rattle.stage.specs.declared.Step.TheVariants.{More, Done}

-- a step that goes on to a stage of which P holds, or is refused
abbrev StepLeads : (Stage → Type 0) → StepResult → Type 0
StepLeads P (Ok (More s)) = P s
StepLeads P (Ok (Done a)) = ⊥
StepLeads P (Err f) = OfWhole 14 16 f

is_16 : (k : ℕ) → k ≤ 255 → OfWhole 14 16 (further k (fault 16))
is_16 k h = whole-at 14 16 16 k (omega arith) (omega arith) h

-- ---- the label
module _ (P : Stage → Type 0) (ios : List ℕ) (tables : ℕ) (block : List ℕ) where
  with_leads : (r : Result Label Fault) → label_of block ≡ r
      → ((l : Label) → label_of block ≡ Ok l → assignments_fit l ios tables ≡ true → P (after_label (length ios) tables l))
      → StepLeads P (with_label ios tables r)
  unfolding with_label
  with_leads (Ok l) e h = when (StepLeads P) (assignments_fit l ios tables) (h l e)
      (λ _. is_16 3 (omega arith))
  with_leads (Err f) e h = whole_wider 14 16 (omega arith) (omega arith) (label_faults block f e)

  label_leads : ((l : Label) → label_of block ≡ Ok l → assignments_fit l ios tables ≡ true → P (after_label (length ios) tables l))
      → StepLeads P (label_step ios tables block)
  unfolding label_step
  label_leads h = with_leads (label_of block) refl h

-- the course that a label sets: its counts are those of the lists
label-counts_fit : (l : Label) (ios : List ℕ) (tables : ℕ) → Carried l → assignments_fit l ios tables ≡ true
    → label_counts_fit (length ios) tables (label_counts_of l) ≡ true
unfolding assignments_fit label_counts_fit
label-counts_fit l ios tables k q =
    let a = eqb-true (length ios) (io_count l) (and_left (eqb (length ios) (io_count l)) _ q) in
    let b = eqb-true tables l.tables (and_left (eqb tables l.tables) _ (and_right (eqb (length ios) (io_count l)) _ q)) in
    let s = k.sections in
    and_both _ _ (le-leb (channel_count l) (length ios) (omega arith)) (le-leb l.sections tables (omega arith))

after-label-fits : (area : Area) (ts : List CoreTable) (io : ℕ) (l : Label) → label_counts_fit io (length ts) (label_counts_of l) ≡ true
    → stage_fits area ts io (after_label io (length ts) l) ≡ true
unfolding after_label due_fits stage_fits
after-label-fits area ts io l q =
    when (λ (s : Stage). stage_fits area ts io s ≡ true) (eqb (entry_blocks io (length ts)) 0)
    (λ _. and_both _ _ q refl)
    (λ e. let h = eqb-false (entry_blocks io (length ts)) 0 e in and_both _ _ q
    (lt-ltb 0 (entry_blocks io (length ts)) (omega arith)))

pub label-fits : (area : Area) (ts : List CoreTable) (ios block : List ℕ) (s : Stage) → label_step ios (length ts) block ≡ step_more s
    → stage_fits area ts (length ios) s ≡ true
label-fits area ts ios block s e =
    rw e at
    (label_leads (λ x. stage_fits area ts (length ios) x ≡ true) ios (length ts) block
    (λ l g q. after-label-fits area ts (length ios) l (label-counts_fit l ios (length ts) (label-carried block l g) q)))

module _ (ios : List ℕ) (tables : ℕ) (block : List ℕ) where
  pub label-not_done : (a : Absolute) → label_step ios tables block ≡ step_done a → ⊥
  label-not_done a e = rw e at (label_leads (λ _. Unit {0}) ios tables block (λ l g q. tt))

  pub label-fault : (f : Fault) → label_step ios tables block ≡ Err f → OfWhole 14 16 f
  label-fault f e = rw e at (label_leads (λ _. Unit {0}) ios tables block (λ l g q. tt))

-- ---- a modification block
module _ (io : ℕ) (ts : List CoreTable) (c : LabelCounts) (exact : Bool) (b : ℕ) (block : List ℕ) where
  entry_leads : (P : Stage → Type 0) → P (after_entries io (length ts) c exact b) → StepLeads P (entry_step io ts c exact b block)
  unfolding entry_step
  entry_leads P h =
      both (StepLeads P) (entries_fit io ts exact b block) h (is_16 _ (omega arith))

  pub entry_not_done : (a : Absolute) → entry_step io ts c exact b block ≡ step_done a → ⊥
  entry_not_done a e = rw e at (entry_leads (λ _. Unit {0}) tt)

  pub entry_fault_lem : (f : Fault) → entry_step io ts c exact b block ≡ Err f → OfWhole 14 16 f
  entry_fault_lem f e = rw e at (entry_leads (λ _. Unit {0}) tt)

after-entries_fit : (area : Area) (ts : List CoreTable) (io : ℕ) (c : LabelCounts) (exact : Bool) (b : ℕ)
    → label_counts_fit io (length ts) c ≡ true
    → stage_fits area ts io (after_entries io (length ts) c exact b) ≡ true
unfolding after_entries due_fits stage_fits
after-entries_fit area ts io c exact b q =
    when (λ (s : Stage). stage_fits area ts io s ≡ true) (ltb (b + 1) (entry_blocks io (length ts)))
    (λ h. and_both _ _ q h)
    (λ _. and_both _ _ q refl)

pub entry_fits_lem : (area : Area) (ts : List CoreTable) (io : ℕ) (c : LabelCounts) (exact : Bool) (b : ℕ) (block : List ℕ) (s : Stage)
    → stage_fits area ts io (Entry c exact b) ≡ true → entry_step io ts c exact b block ≡ step_more s → stage_fits area ts io s ≡ true
unfolding stage_fits
entry_fits_lem area ts io c exact b block s q e =
    rw e at
    (entry_leads io ts c exact b block (λ x. stage_fits area ts io x ≡ true)
    (after-entries_fit area ts io c exact b (and_left (label_counts_fit io (length ts) c) _ q)))

-- ---- the termination block: the start is a word of the IBANK
past : (x y : Bool) → cond x false y ≡ true → (x ≡ false) × (y ≡ true)
past true y q = absurd (false≢true q)
past false y q = (refl, q)

in_bank_lem : (b : Bank) (r : Relative) → in_bank b r ≡ true → (b.at.0 ≤ r.0) × (r.0 < b.at.0 + b.count)
unfolding in_bank
in_bank_lem b r q =
    let p = past (ltb r.0 b.at.0) _ q in
    (ltb-false r.0 b.at.0 p.0, ltb-true r.0 (b.at.0 + b.count) p.1)

module _ (area : Area) (ibank : Bank) where
  abbrev Ends : StepResult → Type 0
  Ends (Ok (More s)) = ⊥
  Ends (Ok (Done a)) = (area.at.0 + ibank.at.0 ≤ a.0) × (a.0 < area.at.0 + (ibank.at.0 + ibank.count))
  Ends (Err f) = OfWhole 22 22 f

  module _ (block : List ℕ) where
    termination-ends : Ends (termination_step area ibank block)
    unfolding termination_step
    termination-ends =
        when Ends (in_bank ibank (start_of block))
        (λ q. let h = in_bank_lem ibank (start_of block) q in (omega arith, omega arith))
        (λ _. whole-at 22 22 22 1 (omega arith) (omega arith) (omega arith))

    pub termination-not_more : (s : Stage) → termination_step area ibank block ≡ step_more s → ⊥
    termination-not_more s e = rw e at termination-ends

    pub termination-fault : (f : Fault) → termination_step area ibank block ≡ Err f → OfWhole 22 22 f
    termination-fault f e = rw e at termination-ends

    pub termination_start : (a : Absolute) → termination_step area ibank block ≡ step_done a
        → (area.at.0 + ibank.at.0 ≤ a.0) × (a.0 < area.at.0 + (ibank.at.0 + ibank.count))
    termination_start a e = rw e at termination-ends
