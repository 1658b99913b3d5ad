-- What a load's fields are changed by, and what has been seen to before a block is read for it.
use Rattle.std.specs.Prelude.{ℕ, ◌≤◌, ◌+◌, ◌≡◌, true, List, length}
use Rattle.word.specs.Limits.{core_most, io_most, tables_most, words_in_block}
use Rattle.word.specs.Lists.{every}
use Rattle.word.specs.Word.{is_word}
use Rattle.program.specs.Sections.{last_word}
use Rattle.lists.specs.declared.Given.{Given}
use Rattle.lists.specs.Load.{Load, load_of, Readable}
use Rattle.lists.specs.Obey.{table_inside}
use Rattle.field.specs.Field.{Assignments}
use Rattle.stage.specs.declared.LabelCounts.{LabelCounts}
use Rattle.stage.specs.declared.Stage.{Stage}
use Rattle.stage.specs.Ranges.{stage_fits}

-- what its fields are changed by: the label's count of references of types 0 and 2 is still in the counts
abbrev pub assignments : Load → LabelCounts → Assignments
assignments x c = record { area = x.area; tables = x.tables; ios = x.ios; channels = c.channels }

-- what has been seen to before a block is read for a load that waits for s
pub record Waits (x : Load) (s : Stage) (block core : List ℕ) : Type 0 where
  pub inside : x.area.at.0 + x.area.size ≤ length core
  pub most : length core ≤ core_most
  pub io : length x.ios ≤ io_most
  pub few : length x.tables ≤ tables_most
  pub tables : every (table_inside x.area) x.tables ≡ true
  pub stage : stage_fits x.area x.tables (length x.ios) s ≡ true
  pub long : length block ≡ words_in_block
  pub words : every is_word block ≡ true

-- the same of a load whose lists the desk keeps
pub record KeptWaits (g : Given) (l : List ℕ) (s : Stage) (block core : List ℕ) : Type 0 where
  pub lists : Readable g l
  pub waits : Waits (load_of g l) s block core

-- the part of that which the words that head a section need, i the place of the first
pub record HeadReady (g : Given) (l block : List ℕ) (i : ℕ) : Type 0 where
  pub lists : Readable g l
  pub long : length block ≡ words_in_block
  pub place : i ≤ last_word
