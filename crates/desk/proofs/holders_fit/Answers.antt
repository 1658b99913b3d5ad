-- `desk::holders_fit` meets its contract: the holders' test first, then the pass over the places that are held.
use Prim.Native.Nat.{ℕ, ◌≤◌}
use mathlib.Core.List.{List}
use mathlib.Core.Path.{◌≡◌, sym, ap, ◌∙◌}
use native.Mathlib.Omega.{arith}
use lib.ListN.{length, take}
use borrow.Author.Tests.{eq-eqb}
use Rattle.word.specs.Lists.{splice}
use Rattle.rooms.specs.Rooms.{held_places}
use Rattle.layout.specs.Layout.{holders}
use Rattle.rooms.proofs.Held.{held_few, held-lent}
use Rattle.layout.proofs.Places.{length-holders}
use Rattle.desk.proofs.Looked.{nothing_held}
use Rattle.desk.proofs.holders_fit.Goals as goal

-- the holders, as they were read, and the places that are held, as they are lent on
holders-long : (d h : List ℕ) → h ≡ holders d → length h ≡ 12
holders-long d h r = ap length r ∙ length-holders d

held-lent_on : (h o e : List ℕ) (n : ℕ) → n ≡ length (held_places 0 h) → o ≡ splice e 0 (held_places 0 h) → length h ≤ length e
    → take n o ≡ held_places 0 h
held-lent_on h o e n q r s = rw r (held-lent _ _ _ q s)

pub returns-then-not-fair : goal.returns-then-not-fair
returns-then-not-fair c =
    sym (rw (sym (rw c.read_holders-h.ensures at c.fair.ensures)
    ∙ c.if-not-fair.true))

pub returns-then-n-eq0 : goal.returns-then-n-eq0
returns-then-n-eq0 c =
    let r = c.read_holders-h.ensures in
    let f = sym (rw r at c.fair.ensures)
    ∙ c.if-not-fair.false in
    rw (eq-eqb _ 0 c.if-n-eq0.true) (sym (rw (f, sym (nothing_held _ f (rw r at (sym c.held_places-n.ensures.0 ∙ c.if-n-eq0.true))))))

pub slice_bounds-held-end : goal.slice_bounds-held-end
slice_bounds-held-end c =
    omega (
      arith,
      c.held_places-n.auto.out,
      held_few c.read_holders-h.result
          c.read_holders-h.result _ c.held_places-n.ensures.0
          (omega arith),
      holders-long _ _ c.read_holders-h.ensures,
    )

pub slice_bounds-places_fit-end : goal.slice_bounds-places_fit-end
slice_bounds-places_fit-end c =
    c.held_places-n.ensures.0
    ∙ sym (ap length (held-lent_on c.read_holders-h.result _ _ _ c.held_places-n.ensures.0 c.held_places-n.ensures.1 (omega (arith, holders-long _ _ c.read_holders-h.ensures))))

pub places_fit-requires : goal.places_fit-requires
places_fit-requires c =
    let r = c.read_holders-h.ensures in
    record {
      map = c.requires;
      rooms = sym (rw r at c.fair.ensures)
          ∙ c.if-not-fair.false;
      named = held-lent_on c.read_holders-h.result _ _ _ c.held_places-n.ensures.0 c.held_places-n.ensures.1 (omega (arith, holders-long _ _ c.read_holders-h.ensures)) ∙ ap (held_places 0) r;
    }

pub returns-else-n-eq0 : goal.returns-else-n-eq0
returns-else-n-eq0 c =
    let r = c.read_holders-h.ensures in
    rw (sym (rw r at c.fair.ensures)
    ∙ c.if-not-fair.false) c.places_fit.ensures
