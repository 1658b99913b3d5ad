-- `desk::load_fits` meets its contract: each return by the tests that led to it.
use Rattle.desk.proofs.Tested.{load_is}
use mathlib.Core.Path.{sym, ◌∙◌}
use Rattle.desk.proofs.load_fits.Goals as goal

pub kept_fits-requires : goal.kept_fits-requires
kept_fits-requires c = rw c.lists_of-numbers.ensures c.requires.1

pub stage_fits-requires : goal.stage_fits-requires
stage_fits-requires c = rw c.lists_of-numbers.ensures c.requires.1

pub returns-then-kept_fits : goal.returns-then-kept_fits
returns-then-kept_fits c =
    let q = sym c.kept_fits.ensures ∙ c.if-kept_fits.true in
    rw (load_is, ← c.lists_of-numbers.ensures, q, ← c.stage_of.ensures) c.stage_fits.ensures

pub returns-else-kept_fits : goal.returns-else-kept_fits
returns-else-kept_fits c =
    let q = sym c.kept_fits.ensures ∙ c.if-kept_fits.false in
    rw (load_is, ← c.lists_of-numbers.ensures, q, c.if-kept_fits.false)
