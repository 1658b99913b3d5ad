-- `lists::load::io_assigned` meets its contract: each way out by the law of the kept numbers, up to their count or past it.
use Rattle.std.proofs.Common.{sym, ◌∙◌, arith, length-take}
use Rattle.word.specs.Lists.{range}
use Rattle.lists.specs.Load.{io_numbers, ios_in}
use Rattle.lists.proofs.Kept.{numbers-at, numbers_past}
use Rattle.lists.proofs.load.io_assigned.Goals as goal

pub slice_bounds-io_number-end : goal.slice_bounds-io_number-end
slice_bounds-io_number-end c = simp length-take (omega arith)

pub io_number-requires : goal.io_number-requires
io_number-requires c = simp length-take (omega arith)

pub returns-then-k-g : goal.returns-then-k-g
unfolding io_numbers ios_in range
returns-then-k-g c = c.io_number.ensures ∙ sym (numbers-at _ _ _ c.if-k-g.true)

pub returns-else-k-g : goal.returns-else-k-g
unfolding io_numbers
returns-else-k-g c = sym (numbers_past _ _ _ c.if-k-g.false)
