-- `refusals::group_fault`: the count, and then the first refusal.
use native.Mathlib.Omega.{arith}
use Rattle.field.specs.Field.{assigned_by}
use Rattle.group.specs.HowFaults.{group_fault}
use Rattle.group.proofs.FirstFault.{first_below}
use Rattle.group.proofs.refusals.group_fault.Goals as goal

pub further-requires : goal.further-requires
further-requires c =
    let a = c.args in
    rw c.first_fault.ensures (omega (
      arith,
      first_below (assigned_by a.s a.lists.now) a.words.now a.n
          c.requires.program,
      c.requires.program,
      c.requires.few,
    ))

pub returns-then-count_fits : goal.returns-then-count_fits
unfolding group_fault
returns-then-count_fits c =
    rw (← c.count_fits.ensures, c.if-count_fits.true, ← c.first_fault.ensures)
    c.further.ensures

pub returns : goal.returns
unfolding group_fault
returns c = rw (← c.count_fits.ensures, c.if-count_fits.false)
