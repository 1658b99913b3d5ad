-- `rooms::held_places` meets its contract: the n held places before place i are kept, and those from there on are still to come.
use mathlib.Core.Path.{◌≡◌, refl, sym, ◌∙◌}
use native.Mathlib.Omega.{arith}
use native.Mathlib.Numerals.{add-one}
use lib.ListN.{length, length-set}
use Rattle.word.proofs.Lists.{copied_none, copied_next, copied_all}
use Rattle.rooms.specs.Rooms.{held_places}
use Rattle.rooms.proofs.Held.{drop-first, drop-none, held_skip, held-here, held_past}
use Rattle.rooms.proofs.held_places.Goals as goal

pub loop-i-init : goal.loop-i-init
loop-i-init c = (omega arith, omega arith, omega arith, omega arith, copied_none _ _ _, refl)

pub loop-i-preserved-then-h-gt0 : goal.loop-i-preserved-then-h-gt0
loop-i-preserved-then-h-gt0 c =
    let l = c.loop-i in
    let hs = c.args.holders.now in
    let f = drop-first (held_places 0 hs) l.n l.i _ (l.invariant.5 ∙ held-here hs l.i (omega arith) (λ z. omega arith)) in (
      omega arith,
      omega arith,
      simp length-set (omega arith),
      omega (arith, f.0),
      copied_next _ _ l.n _ _ (omega arith) f.0 (omega (arith, f.1.0)) l.invariant.4,
      rw (add-one l.n) f.1.1,
    )

pub loop-i-preserved : goal.loop-i-preserved
loop-i-preserved c =
    let l = c.loop-i in
    (omega arith, omega arith, omega arith, l.invariant.3, l.invariant.4, l.invariant.5 ∙ held_skip _ l.i (omega arith) (omega arith))

pub returns : goal.returns
returns c =
    let l = c.loop-i in
    let e = drop-none _ l.n (l.invariant.5 ∙ held_past _ l.i (omega arith)) in
    let n : l.n ≡ length (held_places 0 c.args.holders.now) = omega (arith, e, l.invariant.3) in
    (n, copied_all _ _ _ _ _ (sym n) l.invariant.4)
