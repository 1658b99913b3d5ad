-- `feed::take_block`: what the step told and left is settled.
use native.Mathlib.Omega.{arith}
use Rattle.layout.proofs.Places.{place-length}
use Rattle.feed.specs.Feed.{load_in}
use Rattle.feed.proofs.Fed.{taken_met}
use Rattle.feed.proofs.take_block.Goals as goal

pub own_of-own-requires : goal.own_of-own-requires
own_of-own-requires c =
    let q = c.requires in rw c.place_at-place.ensures
    (place-length _ q.long _ q.place)

pub lists_of-requires : goal.lists_of-requires
lists_of-requires c =
    let q = c.requires in rw
    c.place_at-place.ensures (place-length _ q.long _ q.place)

pub load_step-r-requires : goal.load_step-r-requires
load_step-r-requires c =
    rw
    (c.lists_of.ensures, c.own_of-own.ensures, c.place_at-place.ensures)
    c.requires.load

pub settle-requires : goal.settle-requires
settle-requires c =
    let q = c.requires in
    record {
      long = q.long;
      place = q.place;
      inside = rw (c.own_of-own.ensures, c.place_at-place.ensures) (omega (arith, q.load.waits.inside));
    }

pub returns : goal.returns
unfolding load_in
returns c =
    let q = c.requires in
    let o = c.own_of-own.ensures in
    let e = c.place_at-place.ensures in
    let m = rw (c.lists_of.ensures, o, e) at c.load_step-r.ensures in
    rw (← taken_met _ _ _ _ _ _ q.load.waits _ _ m) (rw (o, e) at c.settle.ensures)
