-- `items::item_step`: a head or a group, by what is due.
use native.Mathlib.Omega.{arith}
use Rattle.sections.specs.Program.{item_step}
use Rattle.sections.proofs.Ranges.{segment_ready, table_ready}
use Rattle.sections.proofs.Turns.{assigned_same, head_met, group_met, table_number, table-read}
use Rattle.sections.proofs.items.item_step.Goals as goal

pub group_step-r-requires : goal.group_step-r-requires
group_step-r-requires c =
    let w = rw c.in-SegmentGroup.is at c.requires.0.waits in
    segment_ready _ _ c.requires.0.lists _ _ _ c.requires.1 _ _ w

pub overflow_add-above : goal.overflow_add-above
overflow_add-above c =
    let w = rw c.in-SectionGroup.is at c.requires.0.waits in
    omega (arith, table_number _ _ c.requires.0.lists _ _ _ _ _ w)

pub group_step-r-requires-in-SectionGroup : goal.group_step-r-requires-in-SectionGroup
group_step-r-requires-in-SectionGroup c =
    let w = rw c.in-SectionGroup.is at c.requires.0.waits in
    rw (table-read _ _ c.requires.0.lists _ _ _ _ _ w _ c.core_table-table.ensures)
    (table_ready _ _ c.requires.0.lists _ _ _ c.requires.1 _ _ _ w)

pub returns-in-Segment : goal.returns-in-Segment
unfolding item_step
returns-in-Segment c =
    let a = c.args in
    rw c.in-Segment.is (head_met a.w.counts _ _ _ _ _ c.segment_head.ensures c.turn_of.ensures)

pub returns-in-SegmentGroup : goal.returns-in-SegmentGroup
unfolding item_step
returns-in-SegmentGroup c =
    let a = c.args in
    let q = assigned_same a.g a.lists.now a.w.counts in
    rw c.in-SegmentGroup.is (group_met a.w.counts _ _ _ _ _ _ _ (rw q at c.group_step-r.ensures) c.after_group.ensures)

pub returns-in-Section : goal.returns-in-Section
unfolding item_step
returns-in-Section c =
    let a = c.args in
    rw c.in-Section.is
    (head_met a.w.counts _ _ _ _ _ c.section_head.ensures c.turn_of-in-Section.ensures)

pub returns-in-SectionGroup : goal.returns-in-SectionGroup
unfolding item_step
returns-in-SectionGroup c =
    let a = c.args in
    let q = assigned_same a.g a.lists.now a.w.counts in
    let w = rw c.in-SectionGroup.is at c.requires.0.waits in
    let d = table-read _ _ c.requires.0.lists _ _ _ _ _ w _ c.core_table-table.ensures in
    rw (c.in-SectionGroup.is, ← d) (group_met a.w.counts _ _ _ _ _ _ _ (rw q at c.group_step-r-in-SectionGroup.ensures) c.after_group-in-SectionGroup.ensures)
