-- The termination block: "word 1 bits 15-0 give the start, relative to the Program Name"; "start not in the IBANK" is 22, at that
-- word; else the answer is *done* with the absolute start.
use Rattle.std.specs.Prelude.{ℕ, cond, List, Err}
use Rattle.word.specs.Fault.{fault, further}
use Rattle.word.specs.Sorts.{absolute_of}
use Rattle.word.specs.declared.Area.{Area}
use Rattle.program.specs.declared.Bank.{Bank}
use Rattle.program.specs.Start.{start_of, in_bank}
use Rattle.stage.specs.Step.{StepResult, step_done}

unfoldable pub termination_step : Area → Bank → List ℕ → StepResult
termination_step area ibank block =
    cond (in_bank ibank (start_of block)) (step_done (absolute_of area (start_of block))) (Err (further 1 (fault 22)))
