-- `stage::section_fits` meets its contract: core table number k is entry k of the definition's list.
use borrow.Author.Tests.{lt-ltb}
use Rattle.word.proofs.Tests.{tests}
use Rattle.lists.proofs.Reading.{core-length, core_at_lem}
use Rattle.stage.specs.Ranges.{section_fits}
use Rattle.stage.proofs.section_fits.Goals as goal

pub returns-then-t-g : goal.returns-then-t-g
unfolding section_fits
returns-then-t-g c =
    let a = c.args in
    let n = c.if-t-g.true in
    rw (
      core-length a.g a.lists.now c.requires,
      lt-ltb _ _ n,
      core_at_lem a.g a.lists.now
          c.requires _ _ n,
      ← c.core_table.ensures,
    )

pub returns-else-t-g : goal.returns-else-t-g
unfolding section_fits
returns-else-t-g c =
    let e = core-length c.args.g c.args.lists.now c.requires in
    rw e (search tests)
