-- `modification::assignments_fit` meets its contract: by the tests one after the other.
use Rattle.std.proofs.Common.{arith, length-take, take, ◌+◌}
use Rattle.word.specs.Lists.{range}
use Rattle.word.proofs.Tests.{tests}
use Rattle.lists.specs.Load.{io_words, ios_in, io_numbers}
use Rattle.lists.proofs.Kept.{numbers-length}
use Rattle.lists.proofs.Reading.{io-length}
use Rattle.modification.specs.Assignments.{assignments_fit}
use Rattle.modification.proofs.Channels.{take-numbers}
use Rattle.modification.proofs.assignments_fit.Goals.{then-g-l, else-g-l}
use Rattle.modification.proofs.assignments_fit.Goals as goal

pub slice_bounds-channels_fit-end : goal.slice_bounds-channels_fit-end
slice_bounds-channels_fit-end c = simp length-take (omega arith)

pub channels_fit-requires : goal.channels_fit-requires
channels_fit-requires c = simp length-take (omega arith)

pub returns-then-g-l-2 : goal.returns-then-g-l-2
unfolding assignments_fit io_numbers ios_in range
returns-then-g-l-2 c =
    let a = c.args in
    let ios = take io_words a.lists.now in
    elim c.if-g-l.branch [
      | then-g-l w ↦
          let e = take-numbers ios (a.l.switches + a.l.channels) a.g.io (omega arith) in
          search (tests, numbers-length, e)
      | else-g-l w ↦ search tests
    ]

pub returns-else-g-l-2 : goal.returns-else-g-l-2
unfolding assignments_fit
returns-else-g-l-2 c = search (tests, io-length)
