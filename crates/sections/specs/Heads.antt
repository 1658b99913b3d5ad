-- The words that head a section: the segment's four, and a table section's one. "All other words, and a number with no table, are
-- 17": the fault is the first word's, also where a later one breaks the rule.
use Rattle.std.specs.Prelude.{ℕ, ◌+◌, ◌-◌, Bool, cond, ◌&&◌, List, get_or, leb, Result, Ok, Err}
use Rattle.word.specs.Fault.{fault}
use Rattle.word.specs.Lists.{every}
use Rattle.word.specs.Runs.{apart}
use Rattle.word.specs.Sorts.{absolute_of}
use Rattle.word.specs.declared.Area.{Area}
use Rattle.program.specs.declared.Bank.{Bank}
use Rattle.program.specs.declared.Segment.{Segment}
use Rattle.word.specs.declared.Fault.{Fault}
use Rattle.program.specs.declared.TableSection.{TableSection}
use Rattle.program.specs.Sections.{segment_of, table_section_of, last_word}
use Rattle.lists.specs.declared.Table.{Table as CoreTable}
use Rattle.stage.specs.declared.LabelCounts.{LabelCounts}
use Rattle.stage.specs.declared.Due.TheVariants.{SegmentGroup, SectionGroup}
use Rattle.stage.specs.Ranges.{bank_fits, section_fits}
use Rattle.sections.specs.declared.Item.{Item}
use Rattle.sections.specs.declared.Item.TheVariants.{Go, Refused}

-- a fault where a head is due
abbrev pub head_fault : Item
head_fault = Refused (fault 17)

-- ---- the segment section

-- a bank shares no word with a table; the bank's address counts from the area's
unfoldable pub beside_table : Area → Bank → CoreTable → Bool
beside_table area b t = apart (absolute_of area b.at).0 b.count t.at.0 t.len

-- "Both lie in the area, sharing no word with each other or a table."
unfoldable pub banks_fit : Area → List CoreTable → Segment → Bool
banks_fit area ts g =
    bank_fits area g.ibank
    && (bank_fits area g.dbank
    && (apart g.ibank.at.0 g.ibank.count g.dbank.at.0 g.dbank.count
    && (every (beside_table area g.ibank) ts
    && every (beside_table area g.dbank) ts)))

-- its groups are due after its four words, from place p on
unfoldable pub with_segment : Area → List CoreTable → LabelCounts → ℕ → Result Segment Fault → Item
with_segment area ts c p (Ok g) = cond (banks_fit area ts g) (Go c (SegmentGroup g) p) head_fault
with_segment area ts c p (Err f) = Refused f

-- "its identifier words stay in one block (else 17)": words up to 254
unfoldable pub segment_step : Area → List CoreTable → LabelCounts → List ℕ → ℕ → Item
segment_step area ts c block i =
    cond (leb (i + 3) last_word) (with_segment area ts c (i + 4) (segment_of (get_or block i 0) (get_or block (i + 1) 0))) head_fault

-- ---- a table section

-- "a count from 1 to the assigned length, .. the table's number, rising from section to section": at least `least`. One section
-- fewer is then to come.
unfoldable pub with_section : List CoreTable → LabelCounts → ℕ → Bank → ℕ → Result TableSection Fault → Item
with_section ts c least ibank p (Ok t) =
    cond (leb least t.number.0)
    (cond (section_fits ts t)
    (Go (record { channels = c.channels; sections = c.sections - 1 }) (SectionGroup t ibank) p)
    head_fault)
    head_fault
with_section ts c least ibank p (Err f) = Refused f

unfoldable pub section_step : List CoreTable → LabelCounts → ℕ → Bank → List ℕ → ℕ → Item
section_step ts c least ibank block i = with_section ts c least ibank (i + 1) (table_section_of (get_or block i 0))
