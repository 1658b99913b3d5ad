-- `changes::change_words`: what is left to do after some words is what there was to do.
use native.Mathlib.Omega.{arith}
use Rattle.group.proofs.Loop.{reached_end}
use Rattle.group.proofs.LoopTurn.{many, first-here, turn_refills, turn_place, turn_ready, turn_stops}
use Rattle.group.proofs.changes.change_words.Goals as goal

pub loop-k-init : goal.loop-k-init
loop-k-init c = rw c.start-c.ensures (first-here _ _ _ _ _ c.requires _)

pub refill-cursor-requires : goal.refill-cursor-requires
refill-cursor-requires c =
    turn_refills _ _ _ _ _ c.requires _ _ _ _
    c.loop-k.invariant

pub change_next-requires : goal.change_next-requires
change_next-requires c =
    turn_ready _ _ _ _ _ c.requires _ _ _ _ c.loop-k.invariant c.loop-k-test.true _
    c.refill-cursor.ensures

pub loop-k-smaller : goal.loop-k-smaller
loop-k-smaller c =
    let r = c.change_next.ensures.goes _ c.in_ok-p.was in
    omega (arith, r.0, r.1.most, many _ _ _ _ _ c.requires)

pub loop-k-preserved : goal.loop-k-preserved
loop-k-preserved c =
    (c.change_next.ensures.goes _ c.in_ok-p.was).1

pub shape_of-out-in_err-p : goal.shape_of-out-in_err-p
shape_of-out-in_err-p c =
    omega (
      arith,
      c.change_next.ensures.long,
      c.requires.room,
    )

pub returns-in_err-p : goal.returns-in_err-p
returns-in_err-p c =
    rw c.from_residual.ensures (turn_stops _ _ _ _ _ _ c.requires.program c.change_next.ensures c.in_err-p.was)

pub place-requires : goal.place-requires
place-requires c = turn_place _ _ _ _ _ c.requires _ _ _ _ c.loop-k.invariant

pub shape_of-out : goal.shape_of-out
shape_of-out c = omega (arith, c.loop-k.invariant.long, many _ _ _ _ _ c.requires, c.requires.room)

pub returns : goal.returns
returns c =
    rw c.place.ensures (reached_end _ _ _ _ _ _ _ c.loop-k.invariant (omega (
      arith,
      many _ _ _ _ _ c.requires,
      c.loop-k-test.false,
    )))
