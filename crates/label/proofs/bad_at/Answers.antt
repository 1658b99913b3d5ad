-- `label::bad_at` meets its contract: what it calls meets theirs.
use Rattle.label.proofs.bad_at.Goals as goal

pub returns : goal.returns
returns c = rw c.further.ensures
