-- `field::step` meets its contract: each arm of the match by what its calls give (Field's arms), and what they give fits.
use Rattle.std.proofs.Common.{arith}
use mathlib.Core.Path.{refl, sym, ◌∙◌}
use Rattle.word.specs.declared.Half.TheVariants.{Right}
use Rattle.field.specs.Field.{assigned_by, becomes, switch, put_back, field_change}
use Rattle.field.proofs.Field.{moved_arm, pair_arm}
use Rattle.field.proofs.Field.{long_arm, short_arm, unit_arm, switch_arm, long_by, word_arm, refused_arm, last_type}
use Rattle.field.proofs.step.Goals as goal

pub returns-then-is_set : goal.returns-then-is_set
unfolding assigned_by
returns-then-is_set c =
    let read = c.field-held.ensures in
    let bit = sym c.is_set.ensures ∙ c.if-is_set.true in
    word_arm _ _ _ _ _ 2 c.in-2.is (long_by read bit) c.told-then-is_set.ensures
    (c.put_back-then-is_set.ensures ∙ long_arm _ _ _ _ read c.in-2.is bit c.long_of.ensures)

pub returns-in-0 : goal.returns-in-0
unfolding assigned_by
returns-in-0 c =
    word_arm _ _ _ _ _ 0 c.in-0.is refl c.told.ensures
    (c.put_back.ensures ∙ moved_arm _ _ _ _ c.field-held.ensures c.in-0.is c.moved_field.ensures)

pub returns-in-1 : goal.returns-in-1
unfolding assigned_by
returns-in-1 c =
    word_arm _ _ _ _ _ 1 c.in-1.is refl c.told-in-1.ensures
    (c.put_back-in-1.ensures ∙ pair_arm _ _ _ _ c.field-held.ensures c.in-1.is c.pair_of.ensures)

pub returns-else-is_set : goal.returns-else-is_set
unfolding assigned_by
returns-else-is_set c =
    let read = c.field-held.ensures in
    let bit = sym c.is_set.ensures ∙ c.if-is_set.false in
    word_arm _ _ _ _ _ 2 c.in-2.is (long_by read bit) c.told-in-2.ensures
    (c.put_back-in-2.ensures ∙ short_arm _ _ _ _ read c.in-2.is bit c.short_of.ensures)

pub returns-in-3 : goal.returns-in-3
unfolding field_change becomes put_back
returns-in-3 c = refused_arm _ _ _ _ _ 3 c.in-3.is refl

pub returns-in-Left : goal.returns-in-Left
unfolding assigned_by
returns-in-Left c =
    rw c.in-Left.is
    (word_arm _ _ _ _ _ 4 c.in-4.is refl c.told-in-Left.ensures
    (c.put_a.ensures ∙ switch_arm _ _ _ c.a_field.ensures c.in-4.is c.switch_of.ensures))

pub returns-in-Right : goal.returns-in-Right
unfolding field_change becomes switch put_back
returns-in-Right c =
    let a = c.args in
    rw c.in-Right.is (refused_arm (assigned_by a.s a.lists.now) Right _ _ a.x 4 c.in-4.is refl)

pub returns-in-5 : goal.returns-in-5
unfolding field_change becomes put_back
returns-in-5 c = refused_arm _ _ _ _ _ 5 c.in-5.is refl

pub returns-in-6 : goal.returns-in-6
unfolding field_change becomes put_back
returns-in-6 c = refused_arm _ _ _ _ _ 6 c.in-6.is refl

pub returns-in_default : goal.returns-in_default
unfolding assigned_by
returns-in_default c =
    let seven = last_type _ (omega arith) (omega arith) (omega arith) (omega arith) (omega arith) (omega arith) (omega arith) c.requires.2 in
    word_arm _ _ _ _ _ 7 seven refl c.told-in_default.ensures
    (c.put_back-in_default.ensures ∙ unit_arm _ _ _ _ c.field-held.ensures seven c.unit_of-b.ensures)
