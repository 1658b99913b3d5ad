-- how the code goes, not a rule of 01
-- An item as the loop over a block takes it: where what was due is due again, that is all that is said. That this is what
-- `after_group` says is `turn_after_lem` in proofs/Turns.antt.
use Rattle.std.specs.Prelude.{ℕ, cond, Result, Ok, Err}
use Rattle.word.specs.declared.Fault.{Fault}
use Rattle.program.specs.declared.Bank.{Bank}
use Rattle.group.specs.declared.GroupEnd.{GroupEnd}
use Rattle.stage.specs.declared.LabelCounts.{LabelCounts}
use Rattle.stage.specs.declared.Due.{Due}
use Rattle.sections.specs.declared.Item.{Item}
use Rattle.sections.specs.declared.Item.TheVariants.{Go, Last, Refused}
use Rattle.sections.specs.declared.Turn.{Turn}
use Rattle.sections.specs.declared.Turn.TheVariants.{Same, Go as turn-go, Last as turn_last, Refused as turn_refused}
use Rattle.sections.specs.Program.{after_last}

-- the item that is meant, where `due` was due
abbrev pub item_of : LabelCounts → Due → Turn → Item
item_of c due (Same p) = Go c due p
item_of c due (turn-go d t p) = Go d t p
item_of c due (turn_last ibank) = Last ibank
item_of c due (turn_refused f) = Refused f

abbrev pub turn_of : Item → Turn
turn_of (Go c due p) = turn-go c due p
turn_of (Last ibank) = turn_last ibank
turn_of (Refused f) = turn_refused f

-- after a group
abbrev pub turn_after : LabelCounts → ℕ → Bank → Result GroupEnd Fault → Turn
turn_after c least ibank (Ok e) = cond e.last (turn_of (after_last c least ibank e.past)) (Same e.past)
turn_after c least ibank (Err f) = turn_refused f
