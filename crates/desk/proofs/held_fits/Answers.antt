-- `desk::held_fits` meets its contract: each return by the tests that led to it.
use Rattle.desk.proofs.Tested.{lists_readable, area_small}
use mathlib.Core.Path.{sym, ◌∙◌}
use Rattle.desk.specs.Sound.{held_fits}
use Rattle.desk.proofs.held_fits.Goals.{then-area_in, else-area_in}
use Rattle.desk.proofs.held_fits.Goals as goal

pub load_fits-requires : goal.load_fits-requires
load_fits-requires c = elim c.if-area_in.branch [
  | then-area_in w ↦
      let q = sym w.counts_fit.ensures ∙ sym w.value-is ∙ c.if-counts_fit.true in
      let a = sym c.area_in.ensures ∙ w.if-area_in.true in
      (c.requires.0, lists_readable _ _ c.requires.0 q (area_small _ _ c.requires.1 a))
  | else-area_in w ↦ cc
]

pub returns-then-counts_fit : goal.returns-then-counts_fit
unfolding held_fits
returns-then-counts_fit c = elim c.if-area_in.branch [
  | then-area_in w ↦
      let q = sym w.counts_fit.ensures ∙ sym w.value-is ∙ c.if-counts_fit.true in
      rw (← c.own_of-o.ensures, sym c.area_in.ensures ∙ w.if-area_in.true, q) c.load_fits.ensures
  | else-area_in w ↦ cc
]

pub returns-else-counts_fit : goal.returns-else-counts_fit
unfolding held_fits
returns-else-counts_fit c = elim c.if-area_in.branch [
  | then-area_in w ↦
      let q = sym w.counts_fit.ensures ∙ sym w.value-is ∙ c.if-counts_fit.false in
      rw (c.if-counts_fit.false, ← c.own_of-o.ensures, sym c.area_in.ensures ∙ w.if-area_in.true, q)
  | else-area_in w ↦ rw (c.if-counts_fit.false, ← c.own_of-o.ensures, sym c.area_in.ensures ∙ w.if-area_in.false)
]
