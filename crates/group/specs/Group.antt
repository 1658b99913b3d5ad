-- One group of a program block (01, "Program blocks", from "Group: bits 35-34 are 10" on): what its program words become, where
-- they go, and what the core holds afterwards. The word of a fault is counted from the group's identifier.
use Rattle.std.specs.Prelude.{ℕ, ◌+◌, ◌-◌, ◌≤◌, ◌≡◌, Bool, true, cond, not, ◌&&◌, List, [], ◌∷◌, length, get_or, leb, Result, Ok, Err}
use Rattle.program.specs.Sections.{last_word}
use Rattle.word.specs.Limits.{core_most, words_in_block}
use Rattle.word.specs.declared.Absolute.{Absolute}
use Rattle.word.specs.declared.Area.{Area}
use Rattle.word.specs.declared.Fault.{Fault}
use Rattle.word.specs.declared.Half.{Half}
use Rattle.word.specs.declared.Half.TheVariants.{Left, Right}
use Rattle.word.specs.Fault.{fault, further}
use Rattle.word.specs.Lists.{every, range, splice, cleared}
use Rattle.word.specs.Runs.{within}
use Rattle.word.specs.Sorts.{absolute_of, from_table}
use Rattle.word.specs.Word.{is_word, field_of}
use Rattle.lists.specs.declared.Given.{Given}
use Rattle.lists.specs.Load.{Readable}
use Rattle.program.specs.declared.Bank.{Bank}
use Rattle.program.specs.declared.Group.{Group}
use Rattle.program.specs.Groups.{group_of}
use Rattle.field.specs.Field.{Assignments, field_step}
use Rattle.indicator.specs.declared.Indicator.{Indicator}
use Rattle.indicator.specs.declared.Indicator.TheVariants.{Same, Change, Long}
use Rattle.indicator.specs.Indicator.{bits_before, indicator_at, after_field, after_word, after_all, just_enough}
use Rattle.group.specs.declared.GroupEnd.{GroupEnd}
use Rattle.group.specs.declared.Section.{Section}
use Rattle.group.specs.declared.Section.TheVariants.{Segment as InSegment, Table as InTable}

-- ---- a program word

-- a half of the word w by its indicator, which starts at place p of the bits: no change, a change by a type, or a long type 010 with
-- its nine bits more
unfoldable pub half_step : Assignments → Half → ℕ → Indicator → ℕ → Result ℕ Fault
half_step a h p Same w = Ok w
half_step a h p (Change t) w = field_step a h p t w 0
half_step a h p (Long x) w = field_step a h p 2 w x

-- one change and then another of what it gave; the first refusal stands
abbrev pub then_half : Result ℕ Fault → (ℕ → Result ℕ Fault) → Result ℕ Fault
then_half (Ok v) next = next v
then_half (Err f) next = Err f

-- "Each program word has a left indicator, then a right": the word w, whose indicators start at place p of the bits. How long they
-- are is decided by the fields of the word as it stands in the block.
unfoldable pub word_step : Assignments → List ℕ → ℕ → ℕ → Result ℕ Fault
word_step a bits p w =
    then_half (half_step a Left p (indicator_at bits p (field_of Left w)) w)
    (half_step a Right (after_field bits p (field_of Left w))
    (indicator_at bits (after_field bits p (field_of Left w)) (field_of Right w)))

-- ---- all program words of a group

-- what they become, or the first refusal
pub data Words : Type 0 where
  Become : List ℕ → Words
  Refuse : Fault → Words

-- a word, and the words after it, which start a word further on
abbrev pub then_words : Result ℕ Fault → Words → Words
then_words (Ok v) (Become vs) = Become (v ∷ vs)
then_words (Ok v) (Refuse f) = Refuse (further 1 f)
then_words (Err f) rest = Refuse f

-- each program word in turn, with the place p of its indicators
unfoldable pub changed_words : Assignments → List ℕ → ℕ → List ℕ → Words
changed_words a bits p [] = Become []
changed_words a bits p (w ∷ ws) = then_words (word_step a bits p w) (changed_words a bits (after_word bits p w) ws)

-- "The program words come first" after the identifier at place i, and the indicator words are the rest of the group
abbrev pub program_words : List ℕ → ℕ → Group → List ℕ
program_words block i g = range block (i + 1) g.program

abbrev pub indicator_bits_in : List ℕ → ℕ → Group → List ℕ
indicator_bits_in block i g = bits_before block (i + 1 + g.words) (g.words - g.program)

-- ---- what is tested before any field of the group: each is 18

-- "and so does each group (else 18)": it stays in one block, whose last word for it is word 254
abbrev pub in_one_block : ℕ → Group → Bool
in_one_block i g = leb (i + g.words) last_word

-- "the words after the identifier", of which "the program words come first": there are as many at least
abbrev pub holds_program : Group → Bool
holds_program g = leb g.program g.words

-- "the words must lie in that bank, or in the table section's count"; "bit 16 zero for the IBANK and set for the DBANK or a table
-- section"
abbrev pub lies_in : Bank → Group → Bool
lies_in bank g = within g.at.0 g.program bank.at.0 bank.count

unfoldable pub words_lie : Section → Group → Bool
words_lie (InSegment segment) g = lies_in (cond g.ibank segment.ibank segment.dbank) g
words_lie (InTable t count) g = not g.ibank && within g.at.0 g.program 0 count

-- "The group has just as many indicator words as the bits need"
unfoldable pub indicators_fit : List ℕ → ℕ → Group → Bool
indicators_fit block i g = just_enough (after_all (indicator_bits_in block i g) 0 (program_words block i g)) (g.words - g.program)

unfoldable pub group_fits : Section → List ℕ → ℕ → Group → Bool
group_fits section block i g =
    in_one_block i g && (holds_program g && (words_lie section g && indicators_fit block i g))

-- ---- the outcome: the answer, and the core afterwards

-- the next identifier is due at place p, in a section of its own where the group was its section's last
abbrev pub ended : ℕ → Bool → Result GroupEnd Fault
ended p last = Ok (record { past = p; last = last })

pub record GroupOutcome : Type 0 where
  pub answer : Result GroupEnd Fault
  pub core : List ℕ

-- an answer and a core are those of an outcome
pub record GroupMeets (o : GroupOutcome) (answer : Result GroupEnd Fault) (core : List ℕ) : Type 0 where
  pub told : answer ≡ o.answer
  pub left : core ≡ o.core

-- "Group addresses count from the Program Name, or from the table's first word"
unfoldable pub address_of : Area → Section → Group → Absolute
address_of area (InSegment segment) g = absolute_of area g.at
address_of area (InTable t count) g = from_table t.at g.at

-- a refused group leaves zeros in the words that it goes to, if these lie where they must, and nothing else is changed. The whole
-- area is set to zero at such a refusal (01, "Refusal numbers"); here zeros are said, so that the code is free to store before all
-- is read.
unfoldable pub refused_group : Area → Section → Group → List ℕ → Fault → GroupOutcome
refused_group area section g core f =
    record { answer = Err f; core = cond (words_lie section g) (cleared core (address_of area section g).0 g.program) core }

-- all fields read: the words stand in the core, and the next identifier is due after the group; or the first field's refusal, at a
-- program word, of which the first stands behind the identifier
unfoldable pub stored_group : Area → Section → ℕ → Group → List ℕ → Words → GroupOutcome
stored_group area section i g core (Become vs) =
    record { answer = ended (i + 1 + g.words) g.last; core = splice core (address_of area section g).0 vs }
stored_group area section i g core (Refuse f) = refused_group area section g core (further 1 f)

-- "Otherwise 18, tested before any field of the group."
unfoldable pub group_outcome : Assignments → Section → List ℕ → ℕ → Group → List ℕ → GroupOutcome
group_outcome a section block i g core =
    cond (group_fits section block i g)
    (stored_group a.area section i g core (changed_words a (indicator_bits_in block i g) 0 (program_words block i g)))
    (refused_group a.area section g core (fault 18))

-- a word that is no group where one is due: 18, and nothing is changed
unfoldable pub read_outcome : Assignments → Section → List ℕ → ℕ → List ℕ → Result Group Fault → GroupOutcome
read_outcome a section block i core (Ok g) = group_outcome a section block i g core
read_outcome a section block i core (Err f) = record { answer = Err f; core = core }

-- the group whose identifier is due at place i of a block
unfoldable pub group_step : Assignments → Section → List ℕ → ℕ → List ℕ → GroupOutcome
group_step a section block i core = read_outcome a section block i core (group_of (get_or block i 0))

-- ---- what has been seen to before a group is read

-- the section's room lies in the area
abbrev pub InArea : Area → Section → Type 0
InArea area (InSegment segment) =
    (segment.ibank.at.0 + segment.ibank.count ≤ area.size) × (segment.dbank.at.0 + segment.dbank.count ≤ area.size)
InArea area (InTable t count) = (area.at.0 ≤ t.at.0) × (t.at.0 + t.len ≤ area.at.0 + area.size) × (count ≤ t.len)

-- the load's lists can be read, its area lies in the core, and the block is one, whose words 1 to 254 may hold an identifier
pub record Ready (g : Given) (l : List ℕ) (section : Section) (block : List ℕ) (i : ℕ) (core : List ℕ) : Type 0 where
  pub lists : Readable g l
  pub inside : g.area.at.0 + g.area.size ≤ length core
  pub most : length core ≤ core_most
  pub room : InArea g.area section
  pub long : length block ≡ words_in_block
  pub words : every is_word block ≡ true
  pub place : i ≤ last_word
