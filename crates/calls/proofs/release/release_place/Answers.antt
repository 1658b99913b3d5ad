-- `calls::release::release_place` meets its contract: refusals 1, 2 and 4, refusal 9, or the place freed.
use mathlib.Core.Path.{refl, sym, ◌∙◌}
use native.Mathlib.Omega.{arith}
use Rattle.layout.proofs.Places.{holds-inside}
use Rattle.desk.proofs.Facts.{sound-long}
use Rattle.calls.specs.Release.{release_of}
use Rattle.calls.proofs.Entry.{entry_passed, entered-refused, entered_on}
use Rattle.calls.proofs.release.release_place.Goals as goal

pub returns-in-Err : goal.returns-in-Err
unfolding release_of
returns-in-Err c = entered-refused _ _ _ _ _ _ c.in-Err.ensures

pub holds_place-requires : goal.holds_place-requires
holds_place-requires c =
    let k = entry_passed _ _ _ _ c.in_default.ensures in
    (sound-long _ k.desk, k.room)

pub returns-then-not-holds_place : goal.returns-then-not-holds_place
unfolding release_of
returns-then-not-holds_place c =
    let k = entry_passed _ _ _ _ c.in_default.ensures in
    rw (entered_on _ _ _ _ _ k, sym c.holds_place.ensures ∙ c.if-not-holds_place.true)
    (record { told = refl; desk_left = refl; core-left = refl })

pub overflow_mul-desk : goal.overflow_mul-desk
overflow_mul-desk c = omega (arith, holds-inside _ _ _ (sym c.holds_place.ensures ∙ c.if-not-holds_place.false))

pub overflow_add-desk : goal.overflow_add-desk
overflow_add-desk c = omega (arith, holds-inside _ _ _ (sym c.holds_place.ensures ∙ c.if-not-holds_place.false))

pub offset_bounds-desk-place : goal.offset_bounds-desk-place
offset_bounds-desk-place c = omega (arith, holds-inside _ _ _ (sym c.holds_place.ensures ∙ c.if-not-holds_place.false))

pub bounds-desk-place : goal.bounds-desk-place
bounds-desk-place c =
    let k = entry_passed _ _ _ _ c.in_default.ensures in
    omega (arith, holds-inside _ _ _ (sym c.holds_place.ensures ∙ c.if-not-holds_place.false), sound-long _ k.desk)

pub returns : goal.returns
unfolding release_of
returns c =
    let k = entry_passed _ _ _ _ c.in_default.ensures in
    rw (entered_on _ _ _ _ _ k, sym c.holds_place.ensures ∙ c.if-not-holds_place.false)
    (record { told = refl; desk_left = refl; core-left = refl })
