-- `label::count_with` meets its contract: each count by the entries of its type, which are 511 at most.
use native.Mathlib.Omega.{arith}
use Rattle.label.proofs.Tables.{counted_most}
use Rattle.label.specs.HowTables.{counted_with}
use Rattle.label.proofs.count_with.Goals as goal

pub overflow_add-result : goal.overflow_add-result
overflow_add-result c = omega (arith, c.entries_if.ensures, counted_most 0 c.args.w)

pub overflow_add-result-2 : goal.overflow_add-result-2
overflow_add-result-2 c = omega (arith, c.entries_if-2.ensures, counted_most 2 c.args.w)

pub overflow_add-result-3 : goal.overflow_add-result-3
overflow_add-result-3 c =
    let a = c.args in
    omega (arith, c.entries_if-3.ensures, counted_most 3 a.w)

pub overflow_add-result-4 : goal.overflow_add-result-4
overflow_add-result-4 c =
    let a = c.args in
    omega (arith, c.entries_if-4.ensures, counted_most 12 a.w)

pub returns : goal.returns
unfolding counted_with
returns c =
    rw (
      c.entries_if-4.ensures,
      c.entries_if-3.ensures,
      c.entries_if-2.ensures,
      c.entries_if.ensures,
    )
