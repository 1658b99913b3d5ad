-- `refusals::half_step`: by its indicator.
use Rattle.group.specs.Group.{half_step}
use Rattle.group.proofs.refusals.half_step.Goals as goal

pub returns-in-Same : goal.returns-in-Same
unfolding half_step
returns-in-Same c = rw c.in-Same.is

pub returns-in-Change : goal.returns-in-Change
unfolding half_step
returns-in-Change c = rw c.in-Change.is c.field_step.ensures

pub returns-in-Long : goal.returns-in-Long
unfolding half_step
returns-in-Long c = rw c.in-Long.is c.field_step-in-Long.ensures
