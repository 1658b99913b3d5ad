-- `calls::open::grant` meets its contract: each return by the tests that led to it.
use Prim.Native.Nat.{ℕ, ◌<◌}
use mathlib.Core.List.{List}
use mathlib.Core.Path.{◌≡◌, refl, sym, ap, ◌∙◌}
use native.Mathlib.Omega.{arith}
use lib.ListN.{length}
use Rattle.lists.proofs.Take.{taken_words, taken_nothing}
use Rattle.layout.proofs.Places.{lists_length}
use Rattle.std.specs.Prelude.{Ok}
use Rattle.word.specs.Fault.{numbered}
use Rattle.word.specs.Limits.{place_count}
use Rattle.layout.specs.Layout.{holders, desk_words}
use Rattle.rooms.specs.Rooms.{place_refusal, lowest_free}
use Rattle.desk.proofs.Facts.{sound-long}
use Rattle.calls.specs.Entry.{Entered}
use Rattle.calls.proofs.Grant.{area_in_core, area_small, none-due, place_inside, place-long, desk_written, words_inside}
use Rattle.calls.proofs.Grant.{words_lent, grant_denied, grant_outside, grant_unlisted, grant_given}
use Rattle.calls.proofs.open.grant.Goals as goal

-- the place that is given is one of the desk's
given_inside : (d h : List ℕ) (k r p : ℕ) → Entered d k r → h ≡ holders d → (u : Unit {0}) → Ok u ≡ numbered (place_refusal r h)
    → p ≡ lowest_free h → (p < place_count) × (length d ≡ desk_words)
given_inside d h k r p q e u o l = (place_inside _ _ e _ q.desk q.room (none-due _ _ e _ u o) _ l, sound-long _ q.desk)

pub read_holders-h-requires : goal.read_holders-h-requires
read_holders-h-requires c = sound-long _ c.requires.desk

pub returns-in-Err : goal.returns-in-Err
returns-in-Err c = grant_denied _ _ _ _ _ _ _ (rw c.read_holders-h.ensures at c.in-Err.ensures)

pub area_fits-requires : goal.area_fits-requires
area_fits-requires c = (sound-long _ c.requires.desk, c.requires.room)

pub returns-then-not-area_fits : goal.returns-then-not-area_fits
returns-then-not-area_fits c =
    let e = c.read_holders-h.ensures in
    let f = none-due _ _ e _ c.in_default.field-0 c.in_default.ensures in
    grant_outside _ _ _ _ _ _ f
    (sym c.area_fits.ensures ∙ c.if-not-area_fits.true)

pub take_lists-requires : goal.take_lists-requires
take_lists-requires c =
    let g = sym c.area_fits.ensures ∙ c.if-not-area_fits.false in
    (area_small _ c.requires.desk _ _ c.requires.room g, refl)

pub overflow_mul-b : goal.overflow_mul-b
overflow_mul-b c =
    let i = given_inside _ _ _ _ _ c.requires c.read_holders-h.ensures c.in_default.field-0 c.in_default.ensures c.lowest_free-p.ensures in
    omega arith

pub overflow_add-b : goal.overflow_add-b
overflow_add-b c =
    let i = given_inside _ _ _ _ _ c.requires c.read_holders-h.ensures c.in_default.field-0 c.in_default.ensures c.lowest_free-p.ensures in
    omega arith

pub overflow_add-b-2 : goal.overflow_add-b-2
overflow_add-b-2 c =
    let i = given_inside _ _ _ _ _ c.requires c.read_holders-h.ensures c.in_default.field-0 c.in_default.ensures c.lowest_free-p.ensures in
    omega arith

pub offset_bounds-desk-b : goal.offset_bounds-desk-b
offset_bounds-desk-b c =
    let i = given_inside _ _ _ _ _ c.requires c.read_holders-h.ensures c.in_default.field-0 c.in_default.ensures c.lowest_free-p.ensures in
    omega arith

pub slice_bounds-write_place-count : goal.slice_bounds-write_place-count
slice_bounds-write_place-count c =
    let i = given_inside _ _ _ _ _ c.requires c.read_holders-h.ensures c.in_default.field-0 c.in_default.ensures c.lowest_free-p.ensures in
    omega arith

pub slice_bounds-write_place-end : goal.slice_bounds-write_place-end
slice_bounds-write_place-end c =
    let i = given_inside _ _ _ _ _ c.requires c.read_holders-h.ensures c.in_default.field-0 c.in_default.ensures c.lowest_free-p.ensures in
    omega arith

pub slice_bounds-words-end : goal.slice_bounds-words-end
slice_bounds-words-end c =
    let k = rw c.in-Some.is at c.take_lists.ensures in
    words_inside _ _ _ _ _ _ k refl

pub slice_bounds-write_place-end-2 : goal.slice_bounds-write_place-end-2
slice_bounds-write_place-end-2 c =
    let k = rw c.in-Some.is at c.take_lists.ensures in
    (taken_words _ _ _ _ _ _ k).1 ∙ sym (ap length (words_lent _ _ _ _ _ _ k refl))

pub write_place-requires : goal.write_place-requires
write_place-requires c =
    let i = given_inside _ _ _ _ _ c.requires c.read_holders-h.ensures c.in_default.field-0 c.in_default.ensures c.lowest_free-p.ensures in
    let k = rw c.in-Some.is at c.take_lists.ensures in
    let g = sym c.area_fits.ensures ∙ c.if-not-area_fits.false in
    let n = sound-long _ c.requires.desk in
    let m = place-long _ c.lowest_free-p.result _ n (omega arith) refl in
    record {
      long = m;
      room = c.requires.room;
      lists = record {
        long = lists_length _ m;
        small = area_small _ c.requires.desk _ _ c.requires.room g;
        obey = (taken_words _ _ _ _ _ _ k).0;
        words = words_lent _ _ _ _ _ _ k refl;
      };
    }

pub clear-requires : goal.clear-requires
clear-requires c =
    let g = sym c.area_fits.ensures ∙ c.if-not-area_fits.false in
    omega (arith, c.requires.core, area_in_core c.args.desk.now c.requires.desk c.args.room c.args.area c.requires.room g)

pub returns : goal.returns
returns c =
    let i = given_inside _ _ _ _ _ c.requires c.read_holders-h.ensures c.in_default.field-0 c.in_default.ensures c.lowest_free-p.ensures in
    let k = rw c.in-Some.is at c.take_lists.ensures in
    let e = c.read_holders-h.ensures in
    let f = none-due _ _ e _ c.in_default.field-0 c.in_default.ensures in
    let g = sym c.area_fits.ensures ∙ c.if-not-area_fits.false in
    let o = (taken_words _ _ _ _ _ _ k).0 in
    let n = sound-long _ c.requires.desk in
    grant_given _ _ _ _ _ _ f g _ _ _ o (c.lowest_free-p.ensures ∙ ap lowest_free e)
    (desk_written _ _ _ _ _ _ _ _ n (omega arith) refl
    (area_small _ c.requires.desk _ _ c.requires.room g) o
    c.write_place.ensures)
    c.clear.ensures

pub returns-in_default-take_lists : goal.returns-in_default-take_lists
returns-in_default-take_lists c =
    grant_unlisted _ _ _ _ _ _
    (none-due _ _ c.read_holders-h.ensures _ c.in_default.field-0 c.in_default.ensures)
    (sym c.area_fits.ensures ∙ c.if-not-area_fits.false)
    (taken_nothing _ _ _ _ _ (rw c.in_default-take_lists.is at c.take_lists.ensures))
