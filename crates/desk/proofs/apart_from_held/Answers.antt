-- `desk::apart_from_held` meets its contract: each return by the tests that led to it.
use borrow.Author.Tests.{eq-eqb, ne_eqb}
use Rattle.layout.specs.Layout.{own_of}
use Rattle.desk.specs.Sound.{areas_apart}
use Rattle.desk.proofs.apart_from_held.Goals as goal

pub returns-then-other-eq0 : goal.returns-then-other-eq0
unfolding areas_apart own_of
returns-then-other-eq0 c = rw (ne_eqb _ _ c.requires.held, eq-eqb _ _ c.if-other-eq0.true)

pub returns-else-other-eq0 : goal.returns-else-other-eq0
unfolding areas_apart own_of
returns-else-other-eq0 c = rw (ne_eqb _ _ c.requires.held, ne_eqb _ _ c.if-other-eq0.false) c.runs_apart.ensures
