-- `field::moved_field` meets its contract: what `valued_of` gives for the address that `placed` gives.
use Rattle.field.specs.Field.{moved_field}
use Rattle.field.proofs.moved_field.Goals as goal

pub returns : goal.returns
unfolding moved_field
returns c = rw c.placed-a.ensures at c.valued_of.ensures
