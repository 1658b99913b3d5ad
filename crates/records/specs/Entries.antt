-- A modification block: "The assigned length must be at least this, and equal to it when the label's bit 35 is set (16). Words
-- after the last entry are disregarded." Nothing of an entry matters but the minimum length of a core table, wherever the blocks
-- part it; so 16 is given at the third word of an entry, in the block where that stands.
use Rattle.std.specs.Prelude.{ℕ, ◌+◌, ◌<◌, ◌≡◌, Bool, cond, ◌||◌, not, List, length, get_or, eqb, ltb, Err}
use Rattle.word.specs.Fault.{fault, further}
use Rattle.word.specs.Lists.{first_not}
use Rattle.word.specs.Limits.{words_in_block}
use Rattle.word.specs.declared.Fault.{Fault}
use Rattle.lists.specs.declared.Given.{Given}
use Rattle.lists.specs.Load.{Readable}
use Rattle.lists.specs.declared.Table.{Table as CoreTable}
use Rattle.lists.specs.Obey.{no_table}
use Rattle.modification.specs.Entries.{entry_blocks, length_spot, minimum, length_fits}
use Rattle.stage.specs.declared.LabelCounts.{LabelCounts}
use Rattle.stage.specs.declared.Due.TheVariants.{Segment}
use Rattle.stage.specs.declared.Stage.{Stage}
use Rattle.stage.specs.declared.Stage.TheVariants.{Entry, Program}
use Rattle.stage.specs.Step.{StepResult, step_more}

-- the length of table t, of the tables ts
abbrev pub length_of : List CoreTable → ℕ → ℕ
length_of ts t = (get_or ts t no_table).len

-- table t's minimum length does not stand in modification block b, or its length fits it. io is how many I/O references there are;
-- the blocks are counted from 0
unfoldable pub entry_fits : ℕ → List CoreTable → Bool → ℕ → List ℕ → ℕ → Bool
entry_fits io ts exact b block t =
    not (eqb (length_spot io (record { 0 = t })).block b)
    || length_fits exact (minimum (get_or block (length_spot io (record { 0 = t })).word 0)) (length_of ts t)

-- the first table whose entry does not fit; where all do, how many there are. The entries stand in the order of the tables
unfoldable pub first_entry : ℕ → List CoreTable → Bool → ℕ → List ℕ → ℕ
first_entry io ts exact b block = first_not (entry_fits io ts exact b block) (length ts)

unfoldable pub entries_fit : ℕ → List CoreTable → Bool → ℕ → List ℕ → Bool
entries_fit io ts exact b block = eqb (first_entry io ts exact b block) (length ts)

-- 16 at the third word of table t's entry
abbrev pub entry_fault : ℕ → ℕ → Fault
entry_fault io t = further (length_spot io (record { 0 = t })).word (fault 16)

-- the next modification block, or program blocks
unfoldable pub after_entries : ℕ → ℕ → LabelCounts → Bool → ℕ → Stage
after_entries io tables c exact b = cond (ltb (b + 1) (entry_blocks io tables)) (Entry c exact (b + 1)) (Program c Segment)

unfoldable pub entry_step : ℕ → List CoreTable → LabelCounts → Bool → ℕ → List ℕ → StepResult
entry_step io ts c exact b block =
    cond (entries_fit io ts exact b block) (step_more (after_entries io (length ts) c exact b))
    (Err (entry_fault io (first_entry io ts exact b block)))

-- ---- what has been seen to before a block is looked at, and before table t's entry is
pub record EntryReady (g : Given) (l : List ℕ) (b : ℕ) (block : List ℕ) : Type 0 where
  pub lists : Readable g l
  pub few : b < 65536
  pub long : length block ≡ words_in_block

pub record SpotReady (g : Given) (l : List ℕ) (t : ℕ) (block : List ℕ) : Type 0 where
  pub lists : Readable g l
  pub table : t < g.tables
  pub long : length block ≡ words_in_block
