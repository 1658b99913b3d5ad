-- `rooms::idle_rooms` meets its contract: the zeros among the rooms' counts.
use mathlib.Core.Path.{◌∙◌}
use Rattle.rooms.proofs.Pass.{tally_idle}
use Rattle.rooms.proofs.idle_rooms.Goals as goal

pub returns : goal.returns
returns c = c.how_many.ensures ∙ tally_idle _ _ c.tally-counts.ensures
