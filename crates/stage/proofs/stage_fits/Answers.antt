-- `stage::stage_fits`: by the stage, and the tests of it.
use mathlib.Core.Bool.{and-false}
use Rattle.std.proofs.Common.{rules}
use Rattle.lists.proofs.Reading.{core-length}
use Rattle.stage.specs.Ranges.{stage_fits}
use Rattle.stage.proofs.stage_fits.Goals as goal

pub returns-then-label_counts_fit : goal.returns-then-label_counts_fit
unfolding stage_fits
returns-then-label_counts_fit c =
    let e = core-length c.args.g c.args.lists.now c.requires in
    search (rules, e)

pub returns-else-label_counts_fit : goal.returns-else-label_counts_fit
unfolding stage_fits
returns-else-label_counts_fit c =
    let e = core-length c.args.g c.args.lists.now c.requires in
    search (rules, e)

pub returns-then-due_fits : goal.returns-then-due_fits
unfolding stage_fits
returns-then-due_fits c =
    let e = core-length c.args.g c.args.lists.now c.requires in
    search (rules, e)

pub returns-else-due_fits : goal.returns-else-due_fits
unfolding stage_fits
returns-else-due_fits c =
    let e = core-length c.args.g c.args.lists.now c.requires in
    search (rules, e, and-false)
