-- A program block, from place 1 on: "where an identifier's first word is due, a zero word or the end at word 254 closes the block.
-- A section runs on through as many blocks as it needs."
use Rattle.std.specs.Prelude.{ℕ, zero, suc, ◌+◌, ◌≡◌, cond, List, get_or, eqb, Result, Ok, Err}
use Rattle.word.specs.declared.Fault.{Fault}
use Rattle.word.specs.Fault.{further}
use Rattle.program.specs.Sections.{last_word}
use Rattle.program.specs.Pieces.{closes}
use Rattle.program.specs.declared.Bank.{Bank}
use Rattle.program.specs.declared.TableSection.{TableSection}
use Rattle.lists.specs.Obey.{no_table}
use Rattle.group.specs.declared.Section.{Section as GroupSection}
use Rattle.group.specs.declared.Section.TheVariants.{Segment as in-segment, Table as in_table}
use Rattle.group.specs.declared.GroupEnd.{GroupEnd}
use Rattle.group.specs.Group.{GroupOutcome, group_step}
use Rattle.stage.specs.declared.LabelCounts.{LabelCounts}
use Rattle.stage.specs.declared.Due.{Due}
use Rattle.stage.specs.declared.Due.TheVariants.{Segment, SegmentGroup, Section, SectionGroup}
use Rattle.stage.specs.declared.Stage.TheVariants.{Program, Termination}
use Rattle.stage.specs.Step.{StepResult, step_more}
use Rattle.sections.specs.declared.Item.{Item}
use Rattle.sections.specs.declared.Item.TheVariants.{Go, Last, Refused as Item-refused}
use Rattle.lists.specs.Load.{Load}
use Rattle.sections.specs.Waits.{assignments}
use Rattle.sections.specs.Heads.{segment_step, section_step}

-- what an item leads to, and the core as its stores left it
pub record ItemOutcome : Type 0 where
  pub item : Item
  pub core : List ℕ

pub record ItemMeets (o : ItemOutcome) (item : Item) (core : List ℕ) : Type 0 where
  pub told : item ≡ o.item
  pub left : core ≡ o.core

-- ---- after a group, at place p

-- of the section's last one: "After the last section's last group the rest of the block is disregarded and the termination block is
-- due." Else the word of a table section is due, its number at least `least`.
unfoldable pub after_last : LabelCounts → ℕ → Bank → ℕ → Item
after_last c least ibank p =
    cond (eqb c.sections 0) (Last ibank) (Go c (Section (record { 0 = least }) ibank) p)

-- of any other: the identifier of a group of the same section is due
unfoldable pub after_group : LabelCounts → Due → ℕ → Bank → Result GroupEnd Fault → Item
after_group c same least ibank (Ok e) = cond e.last (after_last c least ibank e.past) (Go c same e.past)
after_group c same least ibank (Err f) = Item-refused f

-- ---- what stands at place i

-- a head stores nothing
abbrev pub headed : Item → List ℕ → ItemOutcome
headed it core = record { item = it; core = core }

abbrev pub grouped : LabelCounts → Due → ℕ → Bank → GroupOutcome → ItemOutcome
grouped c same least ibank o = record { item = after_group c same least ibank o.answer; core = o.core }

-- the words that a group of a table section may store into: those of the table with its number, as many as it counts
abbrev pub in_section : Load → TableSection → GroupSection
in_section x t = in_table (get_or x.tables t.number.0 no_table) t.count

-- what is due there says how the word is read
unfoldable pub item_step : Load → LabelCounts → Due → List ℕ → ℕ → List ℕ → ItemOutcome
-- "Segment section, first and once, four words"
item_step x c Segment block i core = headed (segment_step x.area x.tables c block i) core
-- "Group addresses count from the Program Name": a group of the segment section; the table section after its last has any number
item_step x c (SegmentGroup g) block i core =
    grouped c (SegmentGroup g) 0 g.ibank (group_step (assignments x c) (in-segment g) block i core)
-- "Table section, one word"
item_step x c (Section least ibank) block i core = headed (section_step x.tables c least.0 ibank block i) core
-- "or from the table's first word": a group of a table section; the next one's number is higher, "rising from section to section"
item_step x c (SectionGroup t ibank) block i core =
    grouped c (SectionGroup t ibank) (t.number.0 + 1) ibank (group_step (assignments x c) (in_section x t) block i core)

-- ---- item after item
pub record StepOutcome : Type 0 where
  pub step : StepResult
  pub core : List ℕ

pub record StepMeets (o : StepOutcome) (step : StepResult) (core : List ℕ) : Type 0 where
  pub told : step ≡ o.step
  pub left : core ≡ o.core

-- after the item at place i; "the group, section and block steps pass this up, each adding its word number" (02, #105): a fault that
-- was told from there is a fault of the block, i words on
abbrev pub followed : ℕ → Item → List ℕ → (LabelCounts → Due → ℕ → List ℕ → StepOutcome) → StepOutcome
followed i (Go c due p) core next = next c due p core
followed i (Last ibank) core next = record { step = step_more (Termination ibank); core = core }
followed i (Item-refused f) core next = record { step = Err (further i f); core = core }

-- n items at most, from place i on, `due` being due there
unfoldable pub program_from : ℕ → Load → LabelCounts → Due → List ℕ → ℕ → List ℕ → StepOutcome
program_from zero x c due block i core = record { step = step_more (Program c due); core = core }
program_from (suc n) x c due block i core =
    cond (closes block i)
    (record { step = step_more (Program c due); core = core })
    (followed i (item_step x c due block i core).item (item_step x c due block i core).core
    (λ d next p after. program_from n x d next block p after))

-- each item takes a word or more, so 254 are all there can be
unfoldable pub program_step : Load → LabelCounts → Due → List ℕ → List ℕ → StepOutcome
program_step x c due block core = program_from last_word x c due block 1 core
