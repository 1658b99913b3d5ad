-- `layout::stage_of` meets its contract: each return by the tests that led to it.
use mathlib.Core.Path.{ap, ◌∙◌}
use Rattle.word.proofs.Lists.{range-lent}
use Rattle.stage.specs.Stage.{stage_of}
use Rattle.layout.specs.Layout.{stage_in}
use Rattle.layout.proofs.stage_of.Goals as goal

pub returns : goal.returns
unfolding stage_in
returns c = c.read_stage.ensures ∙ ap stage_of (range-lent c.args.place.now 6 9)
