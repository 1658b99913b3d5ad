-- `assign::assign_blocks` is safe: a label that was read is within the house's limits.
use mathlib.Core.Path.{sym, ◌∙◌}
use Rattle.front.proofs.Carried.{label-block-carried}
use Rattle.assign.proofs.assign_blocks.Goals as goal

pub assign_label-requires : goal.assign_label-requires
assign_label-requires g c = label-block-carried _ _ (sym c.read_label_block.ensures ∙ c.in-Ok.is)
