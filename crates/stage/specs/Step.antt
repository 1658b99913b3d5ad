-- What a block leads to: more is due, or the load is done and starts at an address; or the block is refused.
use Rattle.std.specs.Prelude.{Result, Ok}
use Rattle.word.specs.declared.Fault.{Fault}
use Rattle.word.specs.declared.Absolute.{Absolute}
use Rattle.stage.specs.declared.Stage.{Stage}
use Rattle.stage.specs.declared.Step.{Step}
use Rattle.stage.specs.declared.Step.TheVariants.{More, Done}

abbrev pub StepResult : Type 0
StepResult = Result Step Fault

abbrev pub step_more : Stage → StepResult
step_more s = Ok (More s)

abbrev pub step_done : Absolute → StepResult
step_done a = Ok (Done a)
