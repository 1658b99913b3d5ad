-- "Feed takes room, place and one block." Refusals 1, 2, 4, 9, 10, 11 and 12 in that order, which change nothing; then 13 to 22,
-- which "set the whole area to zero and mark the load broken". "An accepted block answers *more*, and the termination block
-- answers *done* with the absolute start."
use Rattle.std.specs.Prelude.{ℕ, ◌+◌, ◌≤◌, ◌<◌, ◌≡◌, true, cond, List, length, Ok, Err}
use Rattle.word.specs.Lists.{splice, cleared}
use Rattle.word.specs.Fault.{unless, Verdict}
use Rattle.word.specs.declared.Area.{Area}
use Rattle.block.specs.Block.{verdict}
use Rattle.stage.specs.declared.Stage.{Stage}
use Rattle.stage.specs.declared.Stage.TheVariants.{Complete, Broken}
use Rattle.stage.specs.Stage.{numbers_of}
use Rattle.stage.specs.Step.{StepResult}
use Rattle.stage.specs.declared.Step.TheVariants.{More, Done}
use Rattle.stage.specs.Record.{record_due, is_over}
use Rattle.word.specs.Limits.{place_count}
use Rattle.sections.specs.Waits.{KeptWaits}
use Rattle.lists.specs.Load.{Load, load_of}
use Rattle.sections.specs.Program.{StepOutcome}
use Rattle.layout.specs.Layout.{desk_words, core_length, base, place_in, own_of, stage_in, stage_at, lists_in, holder_in, holds}
use Rattle.desk.specs.Sound.{sound}
use Rattle.calls.specs.declared.Answer.TheVariants.{Refused, More, Done}
use Rattle.calls.specs.Outcome.{Outcome, refused}
use Rattle.calls.specs.Entry.{entered}
use Rattle.feed.specs.Block.{block_step}

-- what the load at a place was given, from the place's numbers
unfoldable pub load_in : List ℕ → Load
load_in l = load_of (own_of l).given (lists_in l)

-- place p waits for s
unfoldable pub staged : List ℕ → ℕ → Stage → List ℕ
staged d p s = splice d (base p + stage_at) (numbers_of s)

-- the area's words, all zero
abbrev pub wiped : Area → List ℕ → List ℕ
wiped area core = cleared core area.at.0 area.size

-- what the load at place p is left with: d and core as they were, `after` the core as the block's stores left it
unfoldable pub settled_of : List ℕ → List ℕ → ℕ → Area → StepResult → List ℕ → Outcome
settled_of d core p area (Ok (More s)) after = record { answer = More; desk = staged d p s; core = after }
settled_of d core p area (Ok (Done a)) after = record { answer = Done a; desk = staged d p Complete; core = after }
settled_of d core p area (Err f) after = record { answer = Refused f; desk = staged d p Broken; core = wiped area core }

abbrev pub settled_by : List ℕ → List ℕ → ℕ → Area → StepOutcome → Outcome
settled_by d core p area o = settled_of d core p area o.step o.core

-- from refusal 13 on: the load at place p was given x and waits for s
unfoldable pub taken_of : List ℕ → List ℕ → ℕ → Load → Stage → List ℕ → Outcome
taken_of d core p x s block = settled_by d core p x.area (block_step x s block core)

-- 11 and 12 change nothing; a block that passes is taken
unfoldable pub checked_of : List ℕ → List ℕ → Outcome → Verdict → Outcome
checked_of d core taken (Ok t) = taken
checked_of d core taken (Err f) = record { answer = Refused f; desk = d; core = core }

-- from refusal 10 on; the checksum word is where the record that is due has it
abbrev pub waiting_of : List ℕ → List ℕ → ℕ → Load → Stage → List ℕ → Outcome
waiting_of d core p x s block =
    cond (is_over s) (refused 10 d core) (checked_of d core (taken_of d core p x s block) (verdict (record_due s) block))

unfoldable pub held_of : List ℕ → List ℕ → ℕ → List ℕ → Outcome
held_of d core p block = waiting_of d core p (load_in (place_in d p)) (stage_in (place_in d p)) block

unfoldable pub feed_of : List ℕ → List ℕ → ℕ → ℕ → List ℕ → Outcome
feed_of d core r p block =
    entered d (length core) r core
    (unless (holds d r p) (refused 9 d core)
    (held_of d core p block))

-- ---- what has been seen to before a held place is fed, before a block is taken, and before its outcome is settled
pub record HeldReady (d core : List ℕ) (p : ℕ) : Type 0 where
  pub desk : sound d ≡ true
  pub long : length core ≡ core_length d
  pub place : p < place_count
  pub held : 1 ≤ holder_in d p

pub record TakeReady (d : List ℕ) (p : ℕ) (s : Stage) (block core : List ℕ) : Type 0 where
  pub long : length d ≡ desk_words
  pub place : p < place_count
  pub load : KeptWaits (own_of (place_in d p)).given (lists_in (place_in d p)) s block core

pub record SettleReady (d core : List ℕ) (p : ℕ) (area : Area) : Type 0 where
  pub long : length d ≡ desk_words
  pub place : p < place_count
  pub inside : area.at.0 + area.size ≤ length core
