-- The ranges of a stage's numbers, given the load's area, core tables and I/O references (01, "The desk": "each other stored number
-- is in the range that docs/ lists for it, given the others").
use Rattle.std.specs.Prelude.{ℕ, Bool, true, ◌&&◌, List, length, get_or, leb, ltb}
use Rattle.word.specs.Runs.{within}
use Rattle.word.specs.declared.Area.{Area}
use Rattle.program.specs.declared.Bank.{Bank}
use Rattle.program.specs.declared.TableSection.{TableSection}
use Rattle.lists.specs.declared.Table.{Table as CoreTable}
use Rattle.modification.specs.Entries.{entry_blocks}
use Rattle.stage.specs.declared.LabelCounts.{LabelCounts}
use Rattle.stage.specs.declared.Due.{Due}
use Rattle.stage.specs.declared.Due.TheVariants.{Segment, SegmentGroup, Section, SectionGroup}
use Rattle.stage.specs.declared.Stage.{Stage}
use Rattle.stage.specs.declared.Stage.TheVariants.{Label, Entry, Program, Termination, Complete, Broken}

-- no more references of types 0 and 2 than references, no more table sections than tables
unfoldable pub label_counts_fit : ℕ → ℕ → LabelCounts → Bool
label_counts_fit io tables c = leb c.channels io && leb c.sections tables

-- a bank lies in the area
unfoldable pub bank_fits : Area → Bank → Bool
bank_fits area b = within b.at.0 b.count 0 area.size

-- a table section is of a table that there is, and of no more words than the table has
unfoldable pub section_fits : List CoreTable → TableSection → Bool
section_fits ts t =
    ltb t.number.0 (length ts)
    && leb t.count (get_or ts t.number.0 (record { at = record { 0 = 0 }; len = 0 })).len

-- what is due of the program blocks
unfoldable pub due_fits : Area → List CoreTable → Due → Bool
due_fits area ts Segment = true
due_fits area ts (SegmentGroup g) = bank_fits area g.ibank && bank_fits area g.dbank
due_fits area ts (Section t i) = bank_fits area i
due_fits area ts (SectionGroup t i) = section_fits ts t && bank_fits area i

unfoldable pub stage_fits : Area → List CoreTable → ℕ → Stage → Bool
stage_fits area ts io Label = true
stage_fits area ts io (Entry c exact b) = label_counts_fit io (length ts) c && ltb b (entry_blocks io (length ts))
stage_fits area ts io (Program c due) = label_counts_fit io (length ts) c && due_fits area ts due
stage_fits area ts io (Termination i) = bank_fits area i
stage_fits area ts io Complete = true
stage_fits area ts io Broken = true
