-- The program words of a group, changed one after the other and stored into the core: how the code goes, not a rule of 01.
use Rattle.std.specs.Prelude.{ℕ, ◌+◌, ◌-◌, ◌≤◌, ◌<◌, ◌≡◌, ◌⊎◌, Bool, true, cond, List, length, get_or, set, eqb, Option, Some, None}
use Rattle.word.specs.Limits.{core_most, words_in_block}
use Rattle.lists.specs.declared.Given.{Given}
use Rattle.lists.specs.Load.{Readable}
use Rattle.word.specs.Lists.{every, range, splice}
use Rattle.word.specs.Word.{is_word}
use Rattle.field.specs.Field.{Assignments}
use Rattle.indicator.specs.declared.Cursor.{Cursor}
use Rattle.indicator.specs.Indicator.{after_all}
use Rattle.indicator.specs.HowCursor.{past_bits, plain_words, past_plain}
use Rattle.group.specs.declared.changes.Progress.{Progress}
use Rattle.group.specs.Group.{Words, changed_words}
use Rattle.group.specs.Group.Words.{Become, Refuse}
use Rattle.group.specs.HowHalves.{both_of}

-- the program words of a group's words
abbrev pub program_in : List ℕ → ℕ → List ℕ
program_in words n = range words 0 n

-- ---- a step of the loop: what it leads to, and the words in the core afterwards
pub record Step : Type 0 where
  pub answer : Option Progress
  pub words : List ℕ

pub record Steps (s : Step) (answer : Option Progress) (words : List ℕ) : Type 0 where
  pub told : answer ≡ s.answer
  pub left : words ≡ s.words

-- the loop stands before word number k, with the cursor c
abbrev pub stands : Cursor → ℕ → Option Progress
stands c k = Some (record { cursor = c; word = k })

-- word number k
unfoldable pub stored_step : ℕ → List ℕ → Option (ℕ × Cursor) → Step
stored_step k out (Some s) = record { answer = stands s.1 (k + 1); words = set out k s.0 }
stored_step k out None = record { answer = None; words = out }

-- from word number k of the program words given on, r words without change
abbrev pub plain_step : List ℕ → Cursor → ℕ → List ℕ → ℕ → Step
plain_step given c k out r = record { answer = stands (past_plain c r) (k + r); words = splice out k (range given k r) }

-- from word number k on: one word; or where all bits at hand are 0, as many without change as these tell
abbrev pub NextSteps : Assignments → List ℕ → Cursor → ℕ → List ℕ → Option Progress → List ℕ → Type 0
NextSteps a given c k out m out' =
    (Steps (stored_step k out (both_of a (get_or given k 0) c)) m out')
    ⊎ ((c.ahead ≡ 0) × (Steps (plain_step given c k out (plain_words c (length given - k))) m out'))

-- where the next two bits are 0: many words at once, or the one (`unchanged_next`, proofs/Loop.antt: it is such a step)
unfoldable pub unchanged_step : List ℕ → Cursor → ℕ → List ℕ → Step
unchanged_step given c k out =
    cond (eqb c.ahead 0)
    (plain_step given c k out (plain_words c (length given - k)))
    (record { answer = stands (past_bits c 2) (k + 1); words = set out k (get_or given k 0) })

-- what is known where words without change are passed
pub record PassReady (given : List ℕ) (c : Cursor) (k : ℕ) (out : List ℕ) : Type 0 where
  pub left : k < length given
  pub most : length given ≤ core_most
  pub room : length out ≡ length given
  pub near : 26 ≤ c.left

-- ---- all words: how many bits their indicators have, or that a field is refused
abbrev pub bits_or : Words → ℕ → Option ℕ
bits_or (Become vs) n = Some n
bits_or (Refuse f) n = None

-- the words in the core are what the program words become; where a field is refused, nothing is said of them
abbrev pub Became : List ℕ → Words → Type 0
Became out (Become vs) = out ≡ vs
Became out (Refuse f) = Unit {0}

pub record Changes (a : Assignments) (bits given : List ℕ) (r : Option ℕ) (out : List ℕ) : Type 0 where
  pub told : r ≡ bits_or (changed_words a bits 0 given) (after_all bits 0 given)
  pub left : Became out (changed_words a bits 0 given)
  pub long : length out ≡ length given

-- what is known before: of a group's words the first n are its program words
pub record ChangeReady (g : Given) (l words : List ℕ) (n : ℕ) (out : List ℕ) : Type 0 where
  pub lists : Readable g l
  pub all : every is_word words ≡ true
  pub few : length words < words_in_block
  pub program : n ≤ length words
  pub room : length out ≡ n

-- an indicator word with no change in it
abbrev pub is_zero : ℕ → Bool
is_zero w = eqb w 0
