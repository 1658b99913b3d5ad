-- A group whose words lie where they must, filled into the words of the core that it goes to: how the code goes, not a rule of 01.
use Rattle.std.specs.Prelude.{ℕ, ◌+◌, ◌≤◌, ◌<◌, ◌^◌, ◌≡◌, true, cond, List, length, replicate, Result, Err}
use Rattle.program.specs.Sections.{last_word}
use Rattle.word.specs.Limits.{words_in_block, core_most}
use Rattle.lists.specs.declared.Given.{Given}
use Rattle.lists.specs.Load.{Readable}
use Rattle.word.specs.declared.Area.{Area}
use Rattle.word.specs.declared.Fault.{Fault}
use Rattle.word.specs.Fault.{fault, further}
use Rattle.word.specs.Lists.{every}
use Rattle.word.specs.Word.{is_word}
use Rattle.program.specs.declared.Group.{Group}
use Rattle.field.specs.Field.{Assignments}
use Rattle.group.specs.declared.Section.{Section}
use Rattle.group.specs.declared.GroupEnd.{GroupEnd}
use Rattle.group.specs.Group.{ended, Words, changed_words, program_words, indicator_bits_in, in_one_block}
use Rattle.group.specs.Group.{holds_program, indicators_fit, InArea}
use Rattle.group.specs.Group.Words.{Become, Refuse}

-- the answer, and the words of the core that the group goes to
pub record Fill : Type 0 where
  pub answer : Result GroupEnd Fault
  pub words : List ℕ

pub record Fills (f : Fill) (answer : Result GroupEnd Fault) (words : List ℕ) : Type 0 where
  pub told : answer ≡ f.answer
  pub left : words ≡ f.words

-- refused
abbrev pub zero_fill : ℕ → Fault → Fill
zero_fill n f = record { answer = Err f; words = replicate n 0 }

-- all fields read
abbrev pub changed_fill : ℕ → Group → Words → Fill
changed_fill i g (Become vs) = record { answer = ended (i + 1 + g.words) g.last; words = vs }
changed_fill i g (Refuse f) = zero_fill g.program (further 1 f)

unfoldable pub counted_fill : Assignments → List ℕ → ℕ → Group → Fill
counted_fill a block i g =
    cond (indicators_fit block i g)
    (changed_fill i g (changed_words a (indicator_bits_in block i g) 0 (program_words block i g)))
    (zero_fill g.program (fault 18))

unfoldable pub fill_of : Assignments → List ℕ → ℕ → Group → Fill
fill_of a block i g =
    cond (in_one_block i g)
    (cond (holds_program g) (counted_fill a block i g) (zero_fill g.program (fault 18)))
    (zero_fill g.program (fault 18))

-- a group's numbers are of as many bits as its identifier has for them
pub record Sized (g : Group) : Type 0 where
  pub words : g.words < 2 ^ 8
  pub program : g.program < 2 ^ 8
  pub at : g.at.0 < 2 ^ 16

-- what is known of a group and of its section where the address of its words is reckoned
pub record AddressReady (area : Area) (section : Section) (g : Group) : Type 0 where
  pub inside : area.at.0 + area.size ≤ core_most
  pub room : InArea area section
  pub sized : Sized g

-- what is known where its words are filled in
pub record FillReady (x : Given) (l block : List ℕ) (i : ℕ) (g : Group) (out : List ℕ) : Type 0 where
  pub lists : Readable x l
  pub long : length block ≡ words_in_block
  pub words : every is_word block ≡ true
  pub place : i ≤ last_word
  pub sized : Sized g
  pub room : length out ≡ g.program

-- what its two first tests show
pub record Fitting (i : ℕ) (g : Group) : Type 0 where
  pub whole : i + g.words ≤ last_word
  pub holds : g.program ≤ g.words
