-- `items::program_step`: at every turn the items from place i on, onto the core as it is, give what the block gives.
use mathlib.Core.Path.{refl, ap, ◌∙◌}
use native.Mathlib.Omega.{arith}
use Rattle.sections.specs.Program.{program_step}
use Rattle.sections.specs.HowTurns.{item_of}
use Rattle.sections.proofs.Turns.{turn_zero, turn_end, turn_on, turn_last, turn_refused, turn_place, turn_waits, turn_length}
use Rattle.sections.proofs.items.program_step.Goals as goal

pub loop-i-init : goal.loop-i-init
unfolding program_step
loop-i-init c = (omega arith, refl, c.requires.waits, refl)

pub bounds-block-i : goal.bounds-block-i
bounds-block-i c = let l = c.loop-i in omega (arith, l.invariant.2.long)

pub shape_of-core-then-block-i-eq0 : goal.shape_of-core-then-block-i-eq0
shape_of-core-then-block-i-eq0 c = c.loop-i.invariant.1

pub returns-then-block-i-eq0 : goal.returns-then-block-i-eq0
returns-then-block-i-eq0 c =
    let l = c.loop-i in
    turn_zero _ _ l.counts l.next l.i l.core _ c.loop-i-test.true c.if-block-i-eq0.true l.invariant.3

pub item_step-requires : goal.item_step-requires
item_step-requires c =
    let l = c.loop-i in
    (record { lists = c.requires.lists; waits = l.invariant.2 }, omega arith)

pub loop-i-smaller-in-Same : goal.loop-i-smaller-in-Same
loop-i-smaller-in-Same c =
    let l = c.loop-i in
    let o = turn_on _ _ l.counts l.next l.i l.core _ c.loop-i-test.true c.if-block-i-eq0.false
    l.invariant.3 _ _ c.item_step.ensures _ _ _ (ap (item_of l.counts l.next) c.in-Same.is) in
    omega (arith, o.0, o.1)

pub loop-i-preserved-in-Same : goal.loop-i-preserved-in-Same
loop-i-preserved-in-Same c =
    let l = c.loop-i in
    let o = turn_on _ _ l.counts l.next l.i l.core _ c.loop-i-test.true c.if-block-i-eq0.false
    l.invariant.3 _ _ c.item_step.ensures _ _ _ (ap (item_of l.counts l.next) c.in-Same.is) in
    let w = turn_waits _ _ l.counts l.next l.i l.core _ c.loop-i-test.true c.if-block-i-eq0.false
    l.invariant.3 _ _ c.item_step.ensures _ _ _ (ap (item_of l.counts l.next) c.in-Same.is) l.invariant.2 in
    let n = turn_length _ _ l.counts l.next l.i l.core _ c.loop-i-test.true c.if-block-i-eq0.false
    l.invariant.3 _ _ c.item_step.ensures l.invariant.2 in
    (o.1, n ∙ l.invariant.1, w, o.2)

pub loop-i-smaller : goal.loop-i-smaller
loop-i-smaller c =
    let l = c.loop-i in
    let o = turn_on _ _ l.counts l.next l.i l.core _ c.loop-i-test.true c.if-block-i-eq0.false
    l.invariant.3 _ _ c.item_step.ensures _ _ _ (ap (item_of l.counts l.next) c.in-Go.is) in
    omega (arith, o.0, o.1)

pub loop-i-preserved : goal.loop-i-preserved
loop-i-preserved c =
    let l = c.loop-i in
    let o = turn_on _ _ l.counts l.next l.i l.core _ c.loop-i-test.true c.if-block-i-eq0.false
    l.invariant.3 _ _ c.item_step.ensures _ _ _ (ap (item_of l.counts l.next) c.in-Go.is) in
    let w = turn_waits _ _ l.counts l.next l.i l.core _ c.loop-i-test.true c.if-block-i-eq0.false
    l.invariant.3 _ _ c.item_step.ensures _ _ _ (ap (item_of l.counts l.next) c.in-Go.is) l.invariant.2 in
    let n = turn_length _ _ l.counts l.next l.i l.core _ c.loop-i-test.true c.if-block-i-eq0.false
    l.invariant.3 _ _ c.item_step.ensures l.invariant.2 in
    (o.1, n ∙ l.invariant.1, w, o.2)

pub shape_of-core-in-Last : goal.shape_of-core-in-Last
shape_of-core-in-Last c =
    let l = c.loop-i in
    turn_length _ _ l.counts l.next l.i l.core _ c.loop-i-test.true c.if-block-i-eq0.false l.invariant.3 _ _
    c.item_step.ensures l.invariant.2 ∙ l.invariant.1

pub returns-in-Last : goal.returns-in-Last
returns-in-Last c =
    let l = c.loop-i in
    turn_last _ _ l.counts l.next l.i l.core _ c.loop-i-test.true c.if-block-i-eq0.false l.invariant.3 _ _
    c.item_step.ensures _ (ap (item_of l.counts l.next) c.in-Last.is)

pub further-requires : goal.further-requires
further-requires c =
    let l = c.loop-i in
    omega (
      arith,
      turn_place _ _ l.counts l.next l.i l.core _ c.loop-i-test.true c.if-block-i-eq0.false
          l.invariant.3 _ _ c.item_step.ensures _ (ap (item_of l.counts l.next) c.in-Refused.is),
    )

pub shape_of-core-in-Refused : goal.shape_of-core-in-Refused
shape_of-core-in-Refused c =
    let l = c.loop-i in
    turn_length _ _ l.counts l.next l.i l.core _ c.loop-i-test.true c.if-block-i-eq0.false l.invariant.3 _ _
    c.item_step.ensures l.invariant.2 ∙ l.invariant.1

pub returns-in-Refused : goal.returns-in-Refused
returns-in-Refused c =
    let l = c.loop-i in
    rw c.further.ensures
    (turn_refused _ _ l.counts l.next l.i l.core _ c.loop-i-test.true c.if-block-i-eq0.false l.invariant.3 _ _
    c.item_step.ensures _ (ap (item_of l.counts l.next) c.in-Refused.is))

pub shape_of-core : goal.shape_of-core
shape_of-core c = c.loop-i.invariant.1

pub returns : goal.returns
returns c = let l = c.loop-i in turn_end _ _ l.counts l.next l.i l.core _ c.loop-i-test.false l.invariant.3
