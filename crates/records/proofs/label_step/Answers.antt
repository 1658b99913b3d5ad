-- `records::label_step` meets its contract: a label that is read is within the house's limits.
use mathlib.Core.Path.{sym, ◌∙◌}
use Rattle.std.proofs.Common.{rules}
use Rattle.label.proofs.Carried.{label-carried}
use Rattle.records.specs.Label.{label_step, with_label}
use Rattle.records.proofs.label_step.Goals as goal

pub take_label-requires : goal.take_label-requires
take_label-requires c =
    let p = c.requires in
    (p.0, label-carried _ _ (sym c.read_label.ensures ∙ c.in_ok-l.was))

pub returns : goal.returns
unfolding label_step
returns c = search rules

pub returns-in_err-l : goal.returns-in_err-l
unfolding label_step with_label
returns-in_err-l c = search rules
