-- `feed::feed_block` meets its contract: refusals 1, 2 and 4, refusal 9, or what `feed_held` leaves.
use mathlib.Core.Path.{refl, sym, ◌∙◌}
use native.Mathlib.Omega.{arith}
use Rattle.layout.proofs.Places.{holds-inside, holds_holder}
use Rattle.desk.proofs.Facts.{sound-long}
use Rattle.calls.proofs.Entry.{entry_passed, entered-refused, entered_on}
use Rattle.feed.specs.Feed.{feed_of}
use Rattle.feed.proofs.feed_block.Goals as goal

pub returns-in-Err : goal.returns-in-Err
unfolding feed_of
returns-in-Err c = entered-refused _ _ _ _ _ _ c.in-Err.ensures

pub holds_place-requires : goal.holds_place-requires
holds_place-requires c =
    let k = entry_passed _ _ _ _ c.in_default.ensures in
    (sound-long _ k.desk, k.room)

pub returns-then-not-holds_place : goal.returns-then-not-holds_place
unfolding feed_of
returns-then-not-holds_place c =
    let k = entry_passed _ _ _ _ c.in_default.ensures in
    rw (entered_on _ _ _ _ _ k, sym c.holds_place.ensures ∙ c.if-not-holds_place.true)
    (record { told = refl; desk_left = refl; core-left = refl })

pub feed_held-requires : goal.feed_held-requires
feed_held-requires c =
    let k = entry_passed _ _ _ _ c.in_default.ensures in
    let h = sym c.holds_place.ensures ∙ c.if-not-holds_place.false in
    record { desk = k.desk; long = k.core; place = holds-inside _ _ _ h; held = omega (arith, holds_holder _ _ _ h) }

pub returns : goal.returns
unfolding feed_of
returns c =
    let k = entry_passed _ _ _ _ c.in_default.ensures in
    rw (entered_on _ _ _ _ _ k, sym c.holds_place.ensures ∙ c.if-not-holds_place.false)
    c.feed_held.ensures
