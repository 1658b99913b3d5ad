-- The label: 14 or 15 where it is none, at the word that its own definition tells, as the label's words are the block's; then 16
-- where the assignments do not fit it, at word 3, which counts its tables and entries.
use Rattle.std.specs.Prelude.{ℕ, cond, List, length, eqb, Result, Ok, Err}
use Rattle.word.specs.Fault.{fault, further}
use Rattle.label.specs.declared.Label.{Label}
use Rattle.word.specs.declared.Fault.{Fault}
use Rattle.label.specs.Label.{label_of, channel_count}
use Rattle.modification.specs.Assignments.{assignments_fit}
use Rattle.modification.specs.Entries.{entry_blocks}
use Rattle.stage.specs.declared.LabelCounts.{LabelCounts}
use Rattle.stage.specs.declared.Due.TheVariants.{Segment}
use Rattle.stage.specs.declared.Stage.{Stage}
use Rattle.stage.specs.declared.Stage.TheVariants.{Entry, Program}
use Rattle.stage.specs.Step.{StepResult, step_more}

-- what of the label is still needed
abbrev pub label_counts_of : Label → LabelCounts
label_counts_of l = record { channels = channel_count l; sections = l.sections }

-- "With no entries there is no modification block."
unfoldable pub after_label : ℕ → ℕ → Label → Stage
after_label io tables l =
    cond (eqb (entry_blocks io tables) 0) (Program (label_counts_of l) Segment) (Entry (label_counts_of l) l.exact 0)

unfoldable pub with_label : List ℕ → ℕ → Result Label Fault → StepResult
with_label ios tables (Ok l) =
    cond (assignments_fit l ios tables) (step_more (after_label (length ios) tables l)) (Err (further 3 (fault 16)))
with_label ios tables (Err f) = Err f

-- ios the numbers of the I/O references, tables how many core tables there are
unfoldable pub label_step : List ℕ → ℕ → List ℕ → StepResult
label_step ios tables block = with_label ios tables (label_of block)
