-- `desk::places_fit` meets its contract: at every turn the places before the next one are looked at.
use Prim.Native.Nat.{◌<◌, ◌-◌, ◌+◌, ℕ}
use mathlib.Core.Path.{◌≡◌, refl, sym, ap, ◌∙◌}
use mathlib.Core.Bool.{Bool}
use mathlib.Core.List.{List}
use native.Mathlib.Omega.{arith}
use lib.ListN.{length, length-set, get_or}
use Rattle.map.specs.declared.Stretch.{Stretch}
use Rattle.map.specs.Map.{stretch_of}
use Rattle.desk.specs.Sound.{held_fits, HeldNamed}
use Rattle.layout.specs.Layout.{place_words, map_numbers, place_in, holder_of}
use Rattle.layout.proofs.Places.{place-length}
use Rattle.desk.proofs.Looked.{Looked, looked_none, looked_end, next_inside, next_held, next_known, looked_unfit}
use Rattle.desk.proofs.Looked.{last-inside, last-held, looked_shared, looked_more, map-numbers-length, stretch_small}
use Rattle.desk.proofs.places_fit.Goals as goal

-- the room of the next place
abbrev room_at : List ℕ → List ℕ → ℕ → ℕ
room_at d held i = holder_of (place_in d (get_or held i 0)) - 1

-- the next place, whose numbers were taken, is a room's
record NextPlace (d held : List ℕ) (i : ℕ) (numbers : List ℕ) : Type 0 where
  pub length : length numbers ≡ place_words
  pub holder : holder_of (place_in d (get_or held i 0)) ≡ room_at d held i + 1
  pub room : room_at d held i < 8
  pub read : get_or numbers 0 0 - 1 ≡ room_at d held i

next_place : (d held last numbers : List ℕ) (i p : ℕ) → HeldNamed d held → Looked d held i p last → i < length held
    → numbers ≡ place_in d (get_or held i 0)
    → NextPlace d held i numbers
next_place d held last numbers i p q l h e =
    let z = next_held _ _ _ i p q.rooms l h in
    let o : holder_of (place_in d (get_or held i 0)) ≡ room_at d held i + 1 = omega (arith, z) in
    record {
      length = rw e (place-length d q.map.long (get_or held i 0) (next_inside _ _ _ i p q.rooms l h));
      holder = o;
      room = omega (arith, o, next_known _ _ _ i p q.rooms l h);
      read = rw e;
    }

-- its stretch
its-stretch : (d n m : List ℕ) (r : ℕ) (s : Stretch) → n ≡ map_numbers d → get_or m 0 0 - 1 ≡ r → s ≡ stretch_of n (get_or m 0 0 - 1)
    → s ≡ stretch_of (map_numbers d) r
its-stretch d n m r s e k q = q ∙ rw (e, k)

-- whether it fits in it
its_test : (a s : Stretch) (m k : List ℕ) (b : Bool) → a ≡ s → m ≡ k → b ≡ held_fits a m → b ≡ held_fits s k
its_test a s m k b e f q = q ∙ rw (e, f)

pub loop-p-init : goal.loop-p-init
loop-p-init c = record { rooms = refl; looked = record { past = 0; so = looked_none _ _ c.requires.named } }

pub place_at-place-requires : goal.place_at-place-requires
place_at-place-requires c =
    let l = c.loop-p in
    (c.requires.map.long, next_inside _ _ _ l.p-index l.invariant.looked.past c.requires.rooms l.invariant.looked.so (omega arith))

pub bounds-place-0 : goal.bounds-place-0
bounds-place-0 c =
    let l = c.loop-p in
    let k = next_place _ _ _ _ l.p-index _ c.requires l.invariant.looked.so (omega arith) c.place_at-place.ensures in
    omega (arith, k.length)

pub overflow_sub-r : goal.overflow_sub-r
overflow_sub-r c =
    let l = c.loop-p in
    let k = next_place _ _ _ _ l.p-index _ c.requires l.invariant.looked.so (omega arith) c.place_at-place.ensures in
    omega (arith, k.holder, ap (λ (m : List ℕ). get_or m 0 0) c.place_at-place.ensures)

pub map_numbers-requires : goal.map_numbers-requires
map_numbers-requires c = c.requires.map.long

pub stretch_at-requires : goal.stretch_at-requires
stretch_at-requires c =
    let l = c.loop-p in
    let k = next_place _ _ _ _ l.p-index _ c.requires l.invariant.looked.so (omega arith) c.place_at-place.ensures in (
      omega (arith, k.room, k.read),
      rw c.map_numbers.ensures
          (map-numbers-length _ c.requires.map.long),
    )

pub held_fits-requires : goal.held_fits-requires
held_fits-requires c =
    let l = c.loop-p in
    let k = next_place _ _ _ _ l.p-index _ c.requires l.invariant.looked.so (omega arith) c.place_at-place.ensures in
    let s = its-stretch _ _ c.place_at-place.result.now _ _ c.map_numbers.ensures k.read c.stretch_at.ensures in (
      k.length,
      rw s
          (stretch_small _ c.requires.map.most c.requires.map.obeys _ k.room),
    )

pub returns-then-not-held_fits : goal.returns-then-not-held_fits
returns-then-not-held_fits c =
    let l = c.loop-p in
    let k = next_place _ _ _ _ l.p-index _ c.requires l.invariant.looked.so (omega arith) c.place_at-place.ensures in
    let s = its-stretch _ _ c.place_at-place.result.now _ _ c.map_numbers.ensures k.read c.stretch_at.ensures in
    looked_unfit _ _ _ l.p-index l.invariant.looked.past
    c.requires.rooms l.invariant.looked.so
    (omega arith) (room_at c.args.desk.now c.args.held.now l.p-index) k.room k.holder
    (sym (its_test _ _ _ _ _ s c.place_at-place.ensures c.held_fits.ensures) ∙ c.if-not-held_fits.true)

pub offset_bounds-last-r : goal.offset_bounds-last-r
offset_bounds-last-r c =
    let l = c.loop-p in
    let k = next_place _ _ _ _ l.p-index _ c.requires l.invariant.looked.so (omega arith) c.place_at-place.ensures in
    omega (arith, k.room, k.read)

pub bounds-last-r : goal.bounds-last-r
bounds-last-r c =
    let l = c.loop-p in
    let k = next_place _ _ _ _ l.p-index _ c.requires l.invariant.looked.so (omega arith) c.place_at-place.ensures in
    omega (arith, k.room, k.read)

pub apart_from_last-requires : goal.apart_from_last-requires
apart_from_last-requires c =
    let l = c.loop-p in
    let k = next_place _ _ _ _ l.p-index _ c.requires l.invariant.looked.so (omega arith) c.place_at-place.ensures in
    record {
      desk = c.requires.map.long;
      most = rw k.read
          (last-inside _ _ _ l.p-index l.invariant.looked.past c.requires.rooms l.invariant.looked.so (omega arith) (room_at c.args.desk.now c.args.held.now l.p-index) k.room k.holder);
      long = k.length;
      held = rw k.read
          (last-held _ _ _ l.p-index l.invariant.looked.past c.requires.rooms l.invariant.looked.so (omega arith) (room_at c.args.desk.now c.args.held.now l.p-index) k.room k.holder);
    }

pub returns-then-not-apart_from_last : goal.returns-then-not-apart_from_last
returns-then-not-apart_from_last c =
    let l = c.loop-p in
    let k = next_place _ _ _ _ l.p-index _ c.requires l.invariant.looked.so (omega arith) c.place_at-place.ensures in
    looked_shared _ _ _ l.p-index l.invariant.looked.past
    c.requires.rooms
    l.invariant.looked.so (omega arith) (room_at c.args.desk.now c.args.held.now l.p-index) k.room k.holder
    (sym (rw c.place_at-place.ensures at c.apart_from_last.ensures) ∙ c.if-not-apart_from_last.true)

pub overflow_add-last : goal.overflow_add-last
overflow_add-last c =
    let l = c.loop-p in
    omega (
      arith,
      next_inside _ _ _ l.p-index l.invariant.looked.past
          c.requires.rooms
          l.invariant.looked.so (omega arith),
    )

pub offset_bounds-last-r-in-loop-p : goal.offset_bounds-last-r-in-loop-p
offset_bounds-last-r-in-loop-p c =
    let l = c.loop-p in
    let k = next_place _ _ _ _ l.p-index _ c.requires l.invariant.looked.so (omega arith) c.place_at-place.ensures in
    omega (arith, k.room, k.read)

pub bounds-last-r-in-loop-p : goal.bounds-last-r-in-loop-p
bounds-last-r-in-loop-p c =
    let l = c.loop-p in
    let k = next_place _ _ _ _ l.p-index _ c.requires l.invariant.looked.so (omega arith) c.place_at-place.ensures in
    omega (arith, k.room, k.read)

pub loop-p-preserved : goal.loop-p-preserved
loop-p-preserved c =
    let l = c.loop-p in
    let k = next_place _ _ _ _ l.p-index _ c.requires l.invariant.looked.so (omega arith) c.place_at-place.ensures in
    let s = its-stretch _ _ c.place_at-place.result.now _ _ c.map_numbers.ensures k.read c.stretch_at.ensures in record {
      rooms = simp length-set (omega arith);
      looked = record {
        past = get_or c.args.held.now l.p-index 0 + 1;
        so = rw k.read (looked_more _ _ _ l.p-index l.invariant.looked.past c.requires.rooms l.invariant.looked.so (omega arith) (room_at c.args.desk.now c.args.held.now l.p-index) k.room
            k.holder c.requires.map.obeys
            (sym (its_test _ _ _ _ _ s c.place_at-place.ensures c.held_fits.ensures) ∙ c.if-not-held_fits.false)
            (sym (rw c.place_at-place.ensures at c.apart_from_last.ensures) ∙ c.if-not-apart_from_last.false)
            l.invariant.rooms);
      };
    }

pub returns : goal.returns
returns c =
    let l = c.loop-p in looked_end _ _ _ l.p-index l.invariant.looked.past c.requires.rooms
    l.invariant.looked.so (omega arith)
