-- `desk::is_sound` meets its contract: each return by the tests that led to it.
use Prim.Native.Nat.{ℕ}
use mathlib.Core.Bool.{Bool}
use mathlib.Core.List.{List}
use mathlib.Core.Path.{sym, ◌∙◌, ◌≡◌}
use borrow.Author.Tests.{eq-eqb, ne_eqb, le-leb, lt-leb}
use Rattle.layout.specs.Layout.{core_length, map_numbers}
use Rattle.map.specs.Map.{map_of, map_obeys}
use Rattle.desk.specs.Sound.{sound}
use Rattle.desk.proofs.is_sound.Goals as goal

-- the map's test, as it was made
map_test : (d m : List ℕ) (b : Bool) → m ≡ map_numbers d → b ≡ map_obeys (core_length d) (map_of m)
    → b ≡ map_obeys (core_length d) (map_of (map_numbers d))
map_test d m b e q = q ∙ rw e

pub returns-then-desk-ne-DESK_WORDS : goal.returns-then-desk-ne-DESK_WORDS
unfolding sound
returns-then-desk-ne-DESK_WORDS c = rw (ne_eqb _ _ c.if-desk-ne-DESK_WORDS.true)

pub returns-then-core-lt1 : goal.returns-then-core-lt1
unfolding sound
returns-then-core-lt1 c = rw (eq-eqb _ _ c.if-desk-ne-DESK_WORDS.false, lt-leb _ _ c.if-core-lt1.true)

pub returns-then-core-gt-CORE_MOST : goal.returns-then-core-gt-CORE_MOST
unfolding sound
returns-then-core-gt-CORE_MOST c = rw (eq-eqb _ _ c.if-desk-ne-DESK_WORDS.false, le-leb _ _ c.if-core-lt1.false, lt-leb _ _ c.if-core-gt-CORE_MOST.true)

pub returns-then-not-map_fits : goal.returns-then-not-map_fits
unfolding sound
returns-then-not-map_fits c =
    rw (
      eq-eqb _ _ c.if-desk-ne-DESK_WORDS.false,
      le-leb _ _
          c.if-core-lt1.false,
      le-leb _ _ c.if-core-gt-CORE_MOST.false,
      sym (map_test c.args.desk.now _ _ c.map_numbers.ensures c.map_fits.ensures)
          ∙ c.if-not-map_fits.true,
    )

pub holders_fit-requires : goal.holders_fit-requires
holders_fit-requires c =
    record {
      long = c.if-desk-ne-DESK_WORDS.false;
      most = c.if-core-gt-CORE_MOST.false;
      obeys = sym (map_test c.args.desk.now _ _ c.map_numbers.ensures c.map_fits.ensures) ∙ c.if-not-map_fits.false;
    }

pub returns : goal.returns
unfolding sound
returns c =
    rw (
      eq-eqb _ _ c.if-desk-ne-DESK_WORDS.false,
      le-leb _ _
          c.if-core-lt1.false,
      le-leb _ _ c.if-core-gt-CORE_MOST.false,
      sym
          (map_test c.args.desk.now _ _ c.map_numbers.ensures c.map_fits.ensures) ∙ c.if-not-map_fits.false,
    )
    c.holders_fit.ensures
