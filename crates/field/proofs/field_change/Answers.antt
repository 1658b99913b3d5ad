-- `field::field_change` meets its contract: each arm of the match by what its calls give (Field's arms), and what they give fits.
use Rattle.std.proofs.Common.{arith}
use mathlib.Core.Path.{sym, ◌∙◌}
use Rattle.field.specs.Field.{assigned_by}
use Rattle.field.proofs.Field.{moved_arm, pair_arm}
use Rattle.field.proofs.Field.{long_arm, short_arm, unit_arm, switch_arm, switch_right, others}
use Rattle.field.proofs.field_change.Goals as goal

pub returns-then-is_set : goal.returns-then-is_set
unfolding assigned_by
returns-then-is_set c =
    c.put_back-then-is_set.ensures ∙ long_arm _ _ _ _ c.field-f.ensures c.in-2.is
    (sym c.is_set.ensures ∙ c.if-is_set.true) c.long_of.ensures

pub returns-in-0 : goal.returns-in-0
unfolding assigned_by
returns-in-0 c = c.put_back.ensures ∙ moved_arm _ _ _ _ c.field-f.ensures c.in-0.is c.moved_field.ensures

pub returns-in-1 : goal.returns-in-1
unfolding assigned_by
returns-in-1 c = c.put_back-in-1.ensures ∙ pair_arm _ _ _ _ c.field-f.ensures c.in-1.is c.pair_of.ensures

pub returns-else-is_set : goal.returns-else-is_set
unfolding assigned_by
returns-else-is_set c =
    c.put_back-in-2.ensures ∙ short_arm _ _ _ _ c.field-f.ensures c.in-2.is
    (sym c.is_set.ensures ∙ c.if-is_set.false) c.short_of.ensures

pub returns-in-Left : goal.returns-in-Left
unfolding assigned_by
returns-in-Left c =
    rw c.in-Left.is
    (c.put_a.ensures
    ∙ switch_arm _ _ _ c.a_field.ensures c.in-4.is c.switch_of.ensures)

pub returns-in-Right : goal.returns-in-Right
returns-in-Right c = rw c.in-Right.is (switch_right _ _ _ c.in-4.is)

pub returns-in-7 : goal.returns-in-7
unfolding assigned_by
returns-in-7 c = c.put_back-in-7.ensures ∙ unit_arm _ _ _ _ c.field-f.ensures c.in-7.is c.unit_of.ensures

pub returns-in_default : goal.returns-in_default
returns-in_default c = others _ _ _ _ _ (omega arith) (omega arith) (omega arith) (omega arith) (omega arith)
