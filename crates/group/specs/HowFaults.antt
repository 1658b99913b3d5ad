-- The refusal of a group of which a field is refused, found anew: how the code goes, not a rule of 01.
use Rattle.std.specs.Prelude.{ℕ, ◌-◌, ◌≤◌, ◌<◌, ◌≡◌, true, cond, List, length}
use Rattle.word.specs.declared.Fault.{Fault}
use Rattle.word.specs.Fault.{fault, further}
use Rattle.word.specs.Limits.{words_in_block}
use Rattle.word.specs.Lists.{every}
use Rattle.word.specs.Word.{is_word}
use Rattle.lists.specs.declared.Given.{Given}
use Rattle.lists.specs.Load.{Readable}
use Rattle.field.specs.Field.{Assignments}
use Rattle.indicator.specs.Indicator.{after_all, just_enough}
use Rattle.indicator.specs.HowCursor.{group_bits}
use Rattle.group.specs.Group.{Words, changed_words}
use Rattle.group.specs.Group.Words.{Become, Refuse}
use Rattle.group.specs.HowWords.{program_in}

-- the refusal, or 0 where there is none
abbrev pub fault_or : Words → Fault
fault_or (Become vs) = fault 0
fault_or (Refuse f) = f

-- of the first field that is refused
unfoldable pub first_fault : Assignments → List ℕ → ℕ → Fault
first_fault a words n = fault_or (changed_words a (group_bits words n) 0 (program_in words n))

-- 18 comes before any field; the program words stand behind the identifier
unfoldable pub group_fault : Assignments → List ℕ → ℕ → Fault
group_fault a words n =
    cond (just_enough (after_all (group_bits words n) 0 (program_in words n)) (length words - n))
    (further 1 (first_fault a words n)) (fault 18)

-- what is known before
pub record FaultReady (g : Given) (l words : List ℕ) (n : ℕ) : Type 0 where
  pub lists : Readable g l
  pub all : every is_word words ≡ true
  pub few : length words < words_in_block
  pub program : n ≤ length words
