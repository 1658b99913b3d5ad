-- `desk::area_in` meets its contract: each return by the tests that led to it.
use borrow.Author.Tests.{le-leb, lt-leb}
use Rattle.desk.specs.Sound.{area_in}
use Rattle.desk.proofs.area_in.Goals as goal

pub returns-then-a-ge1 : goal.returns-then-a-ge1
unfolding area_in
returns-then-a-ge1 c = rw (le-leb 1 _ c.if-a-ge1.true) c.run_within.ensures

pub returns-else-a-ge1 : goal.returns-else-a-ge1
unfolding area_in
returns-else-a-ge1 c = rw (lt-leb 1 _ c.if-a-ge1.false)
