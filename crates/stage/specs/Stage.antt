-- A load's stage in the desk: nine numbers, of which the first says what is due. A first number over 7 is a broken load. Reading
-- what was written gives the stage again (`stage_back`, proofs/Back.antt).
use Rattle.std.specs.Prelude.{ℕ, Bool, cond, List, [], ◌∷◌, get_or, eqb}
use Rattle.program.specs.declared.Bank.{Bank}
use Rattle.program.specs.declared.Segment.{Segment}
use Rattle.program.specs.declared.TableSection.{TableSection}
use Rattle.stage.specs.declared.LabelCounts.{LabelCounts}
use Rattle.stage.specs.declared.Due.TheVariants.{Segment as segment-due, SegmentGroup, Section, SectionGroup}
use Rattle.stage.specs.declared.Stage.{Stage}
use Rattle.stage.specs.declared.Stage.TheVariants.{Label, Entry, Program, Termination, Complete, Broken}

-- the numbers are: what is due; the label counts' two; a table's number, a block's, or whether longer tables are forbidden; a
-- second of these; the IBANK's address and count; the DBANK's
abbrev pub flag : Bool → ℕ
flag exact = cond exact 1 0

unfoldable pub numbers_of : Stage → List ℕ
numbers_of Label = 0 ∷ 0 ∷ 0 ∷ 0 ∷ 0 ∷ 0 ∷ 0 ∷ 0 ∷ 0 ∷ []
numbers_of (Entry c exact b) = 1 ∷ c.channels ∷ c.sections ∷ b ∷ flag exact ∷ 0 ∷ 0 ∷ 0 ∷ 0 ∷ []
numbers_of (Program c segment-due) = 2 ∷ c.channels ∷ c.sections ∷ 0 ∷ 0 ∷ 0 ∷ 0 ∷ 0 ∷ 0 ∷ []
numbers_of (Program c (SegmentGroup g)) =
    3 ∷ c.channels ∷ c.sections ∷ 0 ∷ 0 ∷ g.ibank.at.0 ∷ g.ibank.count ∷ g.dbank.at.0 ∷ g.dbank.count ∷ []
numbers_of (Program c (Section t i)) = 4 ∷ c.channels ∷ c.sections ∷ t.0 ∷ 0 ∷ i.at.0 ∷ i.count ∷ 0 ∷ 0 ∷ []
numbers_of (Program c (SectionGroup t i)) =
    5 ∷ c.channels ∷ c.sections ∷ t.number.0 ∷ t.count ∷ i.at.0 ∷ i.count ∷ 0 ∷ 0 ∷ []
numbers_of (Termination i) = 6 ∷ 0 ∷ 0 ∷ 0 ∷ 0 ∷ i.at.0 ∷ i.count ∷ 0 ∷ 0 ∷ []
numbers_of Complete = 7 ∷ 0 ∷ 0 ∷ 0 ∷ 0 ∷ 0 ∷ 0 ∷ 0 ∷ 0 ∷ []
numbers_of Broken = 8 ∷ 0 ∷ 0 ∷ 0 ∷ 0 ∷ 0 ∷ 0 ∷ 0 ∷ 0 ∷ []

-- the parts of a stage, from its numbers
abbrev pub label_counts_in : List ℕ → LabelCounts
label_counts_in l = record { channels = get_or l 1 0; sections = get_or l 2 0 }

abbrev pub ibank_in : List ℕ → Bank
ibank_in l = record { at = record { 0 = get_or l 5 0 }; count = get_or l 6 0 }

abbrev pub segment_in : List ℕ → Segment
segment_in l = record { ibank = ibank_in l; dbank = record { at = record { 0 = get_or l 7 0 }; count = get_or l 8 0 } }

abbrev pub table_section_in : List ℕ → TableSection
table_section_in l = record { number = record { 0 = get_or l 3 0 }; count = get_or l 4 0 }

unfoldable pub stage_of : List ℕ → Stage
stage_of l =
    cond (eqb (get_or l 0 0) 0) Label
    (cond (eqb (get_or l 0 0) 1) (Entry (label_counts_in l) (eqb (get_or l 4 0) 1) (get_or l 3 0))
    (cond (eqb (get_or l 0 0) 2) (Program (label_counts_in l) segment-due)
    (cond (eqb (get_or l 0 0) 3) (Program (label_counts_in l) (SegmentGroup (segment_in l)))
    (cond (eqb (get_or l 0 0) 4) (Program (label_counts_in l) (Section (record { 0 = get_or l 3 0 }) (ibank_in l)))
    (cond (eqb (get_or l 0 0) 5) (Program (label_counts_in l) (SectionGroup (table_section_in l) (ibank_in l)))
    (cond (eqb (get_or l 0 0) 6) (Termination (ibank_in l))
    (cond (eqb (get_or l 0 0) 7) Complete
    Broken)))))))
