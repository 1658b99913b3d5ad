-- `clamp::clamp_needs` meets its contract: what the label needs, packed.
use Prim.Native.Nat.{ℕ}
use mathlib.Core.Path.{sym, ap, ◌∙◌}
use Rattle.calls.specs.Answer.{file_packed}
use Rattle.calls.specs.declared.files.FileAnswer.TheVariants.{Needs}
use Rattle.std.specs.Prelude.{Result, Err}
use Rattle.word.specs.declared.Fault.{Fault}
use Rattle.label.specs.declared.Label.{Label}
use Rattle.front.proofs.Carried.{label-block-carried}
use Rattle.clamp.specs.Returned.{needs_answer}
use Rattle.clamp.proofs.Assigned.{value_small, needs_small}
use Rattle.clamp.proofs.clamp_needs.Goals as goal

pub needs_value-requires : goal.needs_value-requires
needs_value-requires c = label-block-carried _ _ (sym c.read_label_block.ensures ∙ c.in-Ok.is)

pub pack_file-requires : goal.pack_file-requires
pack_file-requires c =
    rw c.needs_value.ensures
    (value_small _ (label-block-carried _ _ (sym c.read_label_block.ensures ∙ c.in-Ok.is)))

pub pack_file-requires-in-Err : goal.pack_file-requires-in-Err
pack_file-requires-in-Err c = needs_small _ (Err _) (sym c.in-Err.is ∙ c.read_label_block.ensures)

pub returns-in-Ok : goal.returns-in-Ok
returns-in-Ok c =
    c.pack_file.ensures ∙ ap (λ (n : ℕ). file_packed (Needs n)) c.needs_value.ensures
    ∙ ap (λ (r : Result Label Fault). file_packed (needs_answer r))
    (sym c.in-Ok.is ∙ c.read_label_block.ensures)

pub returns-in-Err : goal.returns-in-Err
returns-in-Err c =
    c.pack_file-in-Err.ensures
    ∙ ap (λ (r : Result Label Fault). file_packed (needs_answer r)) (sym c.in-Err.is ∙ c.read_label_block.ensures)
