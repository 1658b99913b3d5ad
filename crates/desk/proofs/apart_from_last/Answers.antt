-- `desk::apart_from_last` meets its contract: each return by the test that led to it.
use Prim.Native.Nat.{◌-◌, ◌<◌}
use native.Mathlib.Omega.{arith}
use Rattle.layout.proofs.Places.{place-length}
use Rattle.desk.proofs.apart_from_last.Goals as goal

pub apart_from_held-requires : goal.apart_from_held-requires
apart_from_held-requires c =
    let h : 0 < c.args.q = omega arith in
    record {
      first = rw c.place_at.ensures
          (place-length c.args.desk.now c.requires.desk (c.args.q - 1) (omega (arith, c.requires.most)));
      second = c.requires.long;
      held = rw c.place_at.ensures (c.requires.held h);
    }
