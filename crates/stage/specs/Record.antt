-- Which record a load waits for: "Order: one label, modification blocks, program blocks, one termination block." A load that is
-- complete or broken waits for none; it meets refusal 10 before its record is asked for.
use Rattle.std.specs.Prelude.{Bool, true, false}
use Rattle.block.specs.declared.Record.{Record}
use Rattle.block.specs.declared.Record.TheVariants.{Label as label-record, Modification}
use Rattle.block.specs.declared.Record.TheVariants.{Program as program-record, Termination as termination-record}
use Rattle.stage.specs.declared.Stage.{Stage}
use Rattle.stage.specs.declared.Stage.TheVariants.{Label, Entry, Program, Termination, Complete, Broken}

unfoldable pub record_due : Stage → Record
record_due Label = label-record
record_due (Entry c exact b) = Modification
record_due (Program c due) = program-record
record_due (Termination i) = termination-record
record_due Complete = termination-record
record_due Broken = termination-record

-- refusal 10: "feed: the load is complete or broken"
unfoldable pub is_over : Stage → Bool
is_over Label = false
is_over (Entry c exact b) = false
is_over (Program c due) = false
is_over (Termination i) = false
is_over Complete = true
is_over Broken = true
