-- `map::in_order` meets its contract: what is left of the core and the stretches not yet looked at decide.
use Rattle.std.proofs.Common.{arith}
use Rattle.map.proofs.Order.{order_past, order_away, order_skip, order_long, order_next, order_starts, order_fails}
use Rattle.map.proofs.Order.{order_more, order_ends}
use Rattle.map.proofs.in_order.Goals.{then-left-x+else-s-ne0+else-core-x, else-left-x+else-x-s}
use Rattle.map.proofs.in_order.Goals as goal

pub loop-r-init : goal.loop-r-init
loop-r-init c = record { most = omega arith; rest = order_starts _ _ }

pub stretch_at-s-requires : goal.stretch_at-s-requires
stretch_at-s-requires c = (omega arith, omega arith)

pub returns-then-s-ne0 : goal.returns-then-s-ne0
returns-then-s-ne0 c =
    let w = c.wrapping_sub_u64-x in
    let a = c.stretch_at-s in
    let l = c.loop-r in
    order_fails _ l.left _ l.r _ l.invariant.rest a.result (omega arith) a.ensures
    (order_away _ l.left w.result _ _ l.invariant.most w.ensures.value (omega arith) (omega arith) c.if-left-x.true
    c.if-s-ne0.true)

pub returns-then-core-x : goal.returns-then-core-x
returns-then-core-x c =
    let w = c.wrapping_sub_u64-x in
    let a = c.stretch_at-s in
    let l = c.loop-r in
    order_fails _ l.left _ l.r _ l.invariant.rest a.result (omega arith) a.ensures
    (order_past _ l.left w.result _ _ l.invariant.most w.ensures.value (omega arith) (omega arith) c.if-core-x.true)

pub returns-then-x-s : goal.returns-then-x-s
returns-then-x-s c =
    let w = c.wrapping_sub_u64-x in
    let a = c.stretch_at-s in
    let l = c.loop-r in
    order_fails _ l.left _ l.r _ l.invariant.rest a.result (omega arith) a.ensures
    (order_long _ l.left w.result _ _ l.invariant.most w.ensures.value (omega arith) (omega arith) c.if-left-x.false
    c.if-x-s.true)

pub loop-r-preserved : goal.loop-r-preserved
loop-r-preserved c =
    let x = c.wrapping_sub_u64-x in
    let a = c.stretch_at-s in
    let l = c.loop-r in
    elim c.if-left-x.branch [
      | then-left-x+else-s-ne0+else-core-x w ↦ rw w.left-is (record {
        most = l.invariant.most;
        rest = order_more _ l.left _ l.r _ l.invariant.rest l.left a.result (omega arith) a.ensures
            (order_skip _ l.left x.result _ _ l.invariant.most x.ensures.value (omega arith) (omega arith)
            w.if-left-x.true w.if-s-ne0.false w.if-core-x.false);
      })
      | else-left-x+else-x-s w ↦ let e = w.if-left-x.false in rw w.left-is (record {
        most = omega arith;
        rest = order_more _ l.left _ l.r _ l.invariant.rest _ a.result (omega arith) a.ensures
            (order_next _ l.left x.result _ _ l.invariant.most x.ensures.value (omega arith) (omega arith) e w.if-x-s.false);
      })
    ]

pub returns : goal.returns
returns c = order_ends _ c.loop-r.left _ c.loop-r.r _ c.loop-r.invariant.rest (omega arith)
