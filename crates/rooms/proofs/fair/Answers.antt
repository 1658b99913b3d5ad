-- `rooms::fair` meets its contract: after i turns the first i holders are counted.
use mathlib.Core.Path.{refl}
use native.Mathlib.Omega.{arith}
use lib.ListN.{length-set}
use Rattle.rooms.proofs.Counted.{counted_none, counted-free, counted-held, counted_stranger, counted_third}
use Rattle.rooms.proofs.Counted.{counted_end}
use Rattle.rooms.proofs.fair.Goals as goal

pub loop-i-init : goal.loop-i-init
loop-i-init c = (omega arith, refl, omega arith, counted_none _)

pub returns-then-h : goal.returns-then-h
returns-then-h c =
    let l = c.loop-i in counted_stranger _ _ l.i _ l.invariant.3 (omega arith)
    c.if-h.true

pub returns-then-k-ge-MOST_HELD : goal.returns-then-k-ge-MOST_HELD
returns-then-k-ge-MOST_HELD c =
    let l = c.loop-i in
    counted_third _ _ l.i _ l.invariant.3 _ (omega arith) (omega arith) (omega arith) c.if-k-ge-MOST_HELD.true

pub loop-i-preserved-then-h-ne0 : goal.loop-i-preserved-then-h-ne0
loop-i-preserved-then-h-ne0 c =
    let l = c.loop-i in (
      omega arith,
      simp length-set (omega arith),
      omega arith,
      counted-held _ _ l.i _ l.invariant.3 _ (omega arith) (omega arith)
          (omega arith) c.if-k-ge-MOST_HELD.false,
    )

pub loop-i-preserved : goal.loop-i-preserved
loop-i-preserved c =
    let l = c.loop-i in
    (omega arith, omega arith, omega arith, counted-free _ _ l.i _ l.invariant.3 (omega arith) c.if-h-ne0.false)

pub returns : goal.returns
returns c = let l = c.loop-i in counted_end _ _ l.i _ l.invariant.3 (omega arith)
