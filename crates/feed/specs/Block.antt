-- One block, whole and with its checksum, for a load that waits for it: what it leads to, and the core as its stores left it.
-- "From 13 on the first fault in reading order is given."
use Rattle.std.specs.Prelude.{ℕ, cond, List, length, Err}
use Rattle.word.specs.Fault.{fault}
use Rattle.block.specs.Records.{of_record}
use Rattle.stage.specs.declared.Stage.{Stage}
use Rattle.stage.specs.declared.Stage.TheVariants.{Label, Entry, Program, Termination, Complete, Broken}
use Rattle.stage.specs.Step.{StepResult, step_more}
use Rattle.stage.specs.Record.{record_due}
use Rattle.records.specs.Label.{label_step}
use Rattle.records.specs.Entries.{entry_step}
use Rattle.records.specs.Termination.{termination_step}
use Rattle.lists.specs.Load.{Load}
use Rattle.sections.specs.Program.{StepOutcome, program_step}

-- a block that stores nothing
abbrev pub stores_nothing : StepResult → List ℕ → StepOutcome
stores_nothing s core = record { step = s; core = core }

-- a block of the record that is due; no block is due for a load that is over (10)
unfoldable pub due_step : Load → Stage → List ℕ → List ℕ → StepOutcome
due_step x Label block core = stores_nothing (label_step x.ios (length x.tables) block) core
due_step x (Entry c exact b) block core = stores_nothing (entry_step (length x.ios) x.tables c exact b block) core
due_step x (Program c due) block core = program_step x c due block core
due_step x (Termination i) block core = stores_nothing (termination_step x.area i block) core
due_step x Complete block core = stores_nothing (step_more Complete) core
due_step x Broken block core = stores_nothing (step_more Broken) core

-- "block of the wrong record" is 13
unfoldable pub block_step : Load → Stage → List ℕ → List ℕ → StepOutcome
block_step x s block core = cond (of_record (record_due s) block) (due_step x s block core) (stores_nothing (Err (fault 13)) core)
