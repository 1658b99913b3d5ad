-- `words_lie`: by section and bit 16.
use Rattle.group.specs.Group.{words_lie}
use Rattle.group.proofs.words_lie.Goals as goal

pub returns-then-g : goal.returns-then-g
unfolding words_lie
returns-then-g c = rw (c.in-Segment.is, c.if-g.true) c.lies_in.ensures

pub returns-then-g-2 : goal.returns-then-g-2
unfolding words_lie
returns-then-g-2 c = rw (c.in-Table.is, c.if-g-2.true)

pub returns-else-g : goal.returns-else-g
unfolding words_lie
returns-else-g c = rw (c.in-Segment.is, c.if-g.false) c.lies_in-in-Segment.ensures

pub returns-else-g-2 : goal.returns-else-g-2
unfolding words_lie
returns-else-g-2 c = rw (c.in-Table.is, c.if-g-2.false) c.run_within.ensures
