-- Where an item leads: to the next piece of the block and to a stage whose numbers are in their ranges, or to a refusal from 17 to
-- 21 at its place.
use Prim.Native.Nat.{ℕ, ◌+◌, ◌-◌, ◌≤◌, ◌<◌}
use Rattle.std.specs.Prelude.{Result, Ok, Err}
use mathlib.Core.Path.{◌≡◌, refl}
use mathlib.Core.Bool.{Bool, true, false}
use mathlib.Core.List.{List}
use native.Mathlib.Omega.{arith}
use lib.ListN.{get_or}
use lib.Dec.{eqb, leb}
use borrow.Author.Tests.{leb-true}
use Rattle.word.specs.declared.Fault.{Fault}
use Rattle.word.specs.declared.Reference.{Reference}
use Rattle.word.specs.Fault.{fault}
use Rattle.word.specs.Word.{part}
use Rattle.word.proofs.Cases.{both, when, and_left, and_right}
use Rattle.word.proofs.Says.{says_and, says_le}
use Rattle.program.specs.declared.Bank.{Bank}
use Rattle.std.specs.Prelude.{Result, Ok, Err}
use Rattle.program.specs.declared.TableSection.{TableSection}
use Rattle.program.specs.declared.Segment.{Segment}
use Rattle.program.specs.Sections.{last_word, bank_of, with_dbank, with_ibank, segment_of, table_section_of}
use Rattle.program.specs.Pieces.{closes}
use Rattle.program.specs.Pieces.Head.{SegmentHead, TableHead, GroupHead}
use Rattle.program.proofs.Heads.{head_segment, head_table, head_group}
use Rattle.program.proofs.Pieces.{pieces_on, Onward}
use Rattle.group.specs.declared.GroupEnd.{GroupEnd}
use Rattle.group.specs.declared.Section.{Section}
use Rattle.group.specs.declared.Section.TheVariants.{Segment as in-segment}
use Rattle.group.specs.Group.{ended, group_step}
use Rattle.group.specs.Places.{Placed}
use Rattle.group.proofs.FieldFaults.{Among}
use Rattle.group.proofs.Faults.{OfItem, of_first, IsOfGroup, group_faults}
use Rattle.group.proofs.Group as groups
use Rattle.stage.specs.declared.LabelCounts.{LabelCounts}
use Rattle.stage.specs.declared.Due.{Due}
use Rattle.stage.specs.declared.Due.TheVariants.{Segment as segment-due, SegmentGroup, Section as section-due, SectionGroup}
use Rattle.stage.specs.declared.Stage.{Stage}
use Rattle.stage.specs.declared.Stage.TheVariants.{Program, Termination}
use Rattle.stage.specs.Ranges.{label_counts_fit, bank_fits, section_fits, stage_fits}
use Rattle.stage.specs.Step.{StepResult}
use Rattle.stage.specs.declared.Step.TheVariants.{More, Done}
use Rattle.sections.specs.declared.Item.{Item}
use Rattle.sections.specs.declared.Item.TheVariants.{Go, Last, Refused}
use Rattle.lists.specs.Load.{Load}
use Rattle.sections.specs.Waits.{assignments}
use Rattle.sections.specs.Heads.{banks_fit, with_segment, segment_step, with_section, section_step}
use Rattle.sections.specs.Program.{in_section, after_last, after_group, item_step}
use Rattle.sections.proofs.Ranges.{StageFits, LabelCountsFit, BankFits, says_first, says_segment, says_section, says_table}

-- a fault of a program block
abbrev pub OfProgram : List ℕ → Fault → Type 0
OfProgram block f = (Among 17 21 f) × (Placed block f)

-- an answer for a load that waited for s
abbrev pub StepTold : Load → List ℕ → Stage → StepResult → Type 0
StepTold x block s (Ok (More t)) = StageFits x s → StageFits x t
StepTold x block s (Ok (Done a)) = ⊥
StepTold x block s (Err f) = OfProgram block f

-- the pieces go on at place p behind the one at place i, however many are read
abbrev pub GoesOn : List ℕ → ℕ → ℕ → Type 0
GoesOn block i p = (n : ℕ) → closes block i ≡ false → Onward block i p n

-- an item at place i, where s is due
abbrev pub ItemLeads : Load → List ℕ → Stage → ℕ → Item → Type 0
ItemLeads x block s i (Go c due p) = (i < p) × (p ≤ 255) × (StageFits x s → StageFits x (Program c due)) × GoesOn block i p
ItemLeads x block s i (Last ibank) = StageFits x s → StageFits x (Termination ibank)
ItemLeads x block s i (Refused f) = OfItem 17 block i f

-- ---- heads
module _ (block : List ℕ) (i : ℕ) (top : i ≤ last_word) where
  abbrev OfHead : Fault → Type 0
  OfHead f = OfItem 17 block i f

  is_17 : OfHead (fault 17)
  is_17 = of_first 17 17 block i top (omega arith) (omega arith)

  abbrev IsOfBank : Result Bank Fault → Type 0
  IsOfBank (Ok b) = Unit {0}
  IsOfBank (Err f) = OfHead f

  abbrev IsOfSegment : Result Segment Fault → Type 0
  IsOfSegment (Ok g) = Unit {0}
  IsOfSegment (Err f) = OfHead f

  abbrev IsOfSection : Result TableSection Fault → Type 0
  IsOfSection (Ok t) = Unit {0}
  IsOfSection (Err f) = OfHead f

  bank_fault : (w : ℕ) → IsOfBank (bank_of w)
  unfolding bank_of
  bank_fault w = both IsOfBank (eqb (part 34 2 w) 0) (both IsOfBank (eqb (part 16 2 w) 0) tt is_17) is_17

  dbank_fault : (b : Bank) (d : Result Bank Fault) → IsOfBank d → IsOfSegment (with_dbank b d)
  dbank_fault b (Ok d) h = tt
  dbank_fault b (Err f) h = h

  ibank_fault : (b d : Result Bank Fault) → IsOfBank b → IsOfBank d → IsOfSegment (with_ibank b d)
  ibank_fault (Ok b) d h k = both IsOfSegment (eqb b.count 0) is_17 (dbank_fault b d k)
  ibank_fault (Err f) d h k = h

  segment-fault : (v w : ℕ) → IsOfSegment (segment_of v w)
  unfolding segment_of
  segment-fault v w = ibank_fault (bank_of v) (bank_of w) (bank_fault v) (bank_fault w)

  section_fault : (w : ℕ) → IsOfSection (table_section_of w)
  unfolding table_section_of
  section_fault w =
      both IsOfSection (eqb (part 34 2 w) 1)
      (both IsOfSection (eqb (part 8 10 w) 0) (both IsOfSection (eqb (part 18 16 w) 0) is_17 tt) is_17) is_17

module _ (x : Load) (block : List ℕ) where
  banks_both : (g : Segment) → banks_fit x.area x.tables g ≡ true → BankFits x g.ibank × BankFits x g.dbank
  unfolding banks_fit
  banks_both g q =
      let i = bank_fits x.area g.ibank in
      let d = bank_fits x.area g.dbank in
      (and_left i _ q, and_left d _ (and_right i _ q))

  with_segment_lem : (c : LabelCounts) (i : ℕ) (top : i ≤ last_word) → i + 3 ≤ last_word → (r : Result Segment Fault) → IsOfSegment block i top r
      → segment_of (get_or block i 0) (get_or block (i + 1) 0) ≡ r
      → ItemLeads x block (Program c segment-due) i (with_segment x.area x.tables c (i + 4) r)
  unfolding with_segment
  with_segment_lem c i top h (Ok g) k e =
      when (ItemLeads x block (Program c segment-due) i) (banks_fit x.area x.tables g)
      (λ q. (
        omega arith,
        omega arith,
        λ f. (says_segment x c g).test (((says_first x c).fact f).0, banks_both g q),
        λ n o. record { first = _; same = pieces_on block i n o (SegmentHead g) (head_segment block i g e) },
      ))
      (λ q. is_17 block i top)
  with_segment_lem c i top h (Err f) k e = k

  segment_leads : (c : LabelCounts) (i : ℕ) → i ≤ last_word
      → ItemLeads x block (Program c segment-due) i (segment_step x.area x.tables c block i)
  unfolding segment_step
  segment_leads c i top =
      when (ItemLeads x block (Program c segment-due) i) (leb (i + 3) last_word)
      (λ q. with_segment_lem c i top (leb-true (i + 3) last_word q) (segment_of (get_or block i 0) (get_or block (i + 1) 0))
      (segment-fault block i top (get_or block i 0) (get_or block (i + 1) 0)) refl)
      (λ q. is_17 block i top)

  -- one section fewer to come is no more
  fewer_fits : (io tables : ℕ) (c : LabelCounts) → label_counts_fit io tables c ≡ true
      → label_counts_fit io tables (record { channels = c.channels; sections = c.sections - 1 }) ≡ true
  unfolding label_counts_fit
  fewer_fits io tables c q =
      let s = (says_and (says_le c.channels io) (says_le c.sections tables)).fact q in
      (says_and (says_le c.channels io) (says_le (c.sections - 1) tables)).test (s.0, omega arith)

  with_section_lem : (c : LabelCounts) (least : Reference) (ibank : Bank) (i : ℕ) (top : i ≤ last_word) → (r : Result TableSection Fault)
      → IsOfSection block i top r → table_section_of (get_or block i 0) ≡ r
      → ItemLeads x block (Program c (section-due least ibank)) i (with_section x.tables c least.0 ibank (i + 1) r)
  unfolding with_section
  with_section_lem c least ibank i top (Ok t) k e =
      both (ItemLeads x block (Program c (section-due least ibank)) i) (leb least.0 t.number.0)
      (when (ItemLeads x block (Program c (section-due least ibank)) i) (section_fits x.tables t)
      (λ q. (
        omega arith,
        omega arith,
        λ f. let d = (says_section x c least ibank).fact f in (says_table x
            (record { channels = c.channels; sections = c.sections - 1 }) t ibank).test (fewer_fits _ _ c d.0, (q, d.1)),
        λ n o. record { first = _; same = pieces_on block i n o (TableHead t) (head_table block i t e) },
      ))
      (λ q. is_17 block i top))
      (is_17 block i top)
  with_section_lem c least ibank i top (Err f) k e = k

  section_leads : (c : LabelCounts) (least : Reference) (ibank : Bank) (i : ℕ) → i ≤ last_word
      → ItemLeads x block (Program c (section-due least ibank)) i (section_step x.tables c least.0 ibank block i)
  unfolding section_step
  section_leads c least ibank i top = with_section_lem c least ibank i top (table_section_of (get_or block i 0))
      (section_fault block i top (get_or block i 0)) refl

  -- ---- groups: their section's stage fits, so what the section leaves fits
  module _ (c : LabelCounts) (same : Due) (least i : ℕ) (ibank : Bank)
      (fits : StageFits x (Program c same) → LabelCountsFit x c × BankFits x ibank) where
    last_leads : (p : ℕ) → i < p → p ≤ 255 → GoesOn block i p → ItemLeads x block (Program c same) i (after_last c least ibank p)
    unfolding after_last stage_fits
    last_leads p h k o =
        both (ItemLeads x block (Program c same) i) (eqb c.sections 0) (λ f. (fits f).1)
        (h, k, λ f. (says_section x c (record { 0 = least }) ibank).test (fits f), o)

    answer_leads : (r : Result GroupEnd Fault) → IsOfGroup block i r
        → ((p : ℕ) (last : Bool) → r ≡ ended p last → (i < p) × (p ≤ 255) × GoesOn block i p)
        → ItemLeads x block (Program c same) i (after_group c same least ibank r)
    unfolding after_group
    answer_leads (Ok e) h k =
        let l = k e.past e.last refl in
        both (ItemLeads x block (Program c same) i) e.last (last_leads e.past l.0 l.1 l.2) (l.0, l.1, λ f. f, l.2)
    answer_leads (Err f) h k =
        record { number = (omega (arith, h.number.0), h.number.1); inside = h.inside; place = h.place }

    -- behind a group that is read stands the next piece
    group_on : (p : ℕ) (last : Bool) → groups.GroupEnded block i p last → GoesOn block i p
    group_on p last e n o = record {
      first = record { block = block; at = i; head = GroupHead e.group };
      same = rw e.place (pieces_on block i n o (GroupHead e.group) (head_group block i e.group e.read));
    }

    group_leads : (section : Section) (core : List ℕ) → i ≤ last_word
        → ItemLeads x block (Program c same) i (after_group c same least ibank (group_step (assignments x c) section block i core).answer)
    group_leads section core top =
        answer_leads (group_step (assignments x c) section block i core).answer
        (group_faults (assignments x c) section block i top core)
        (λ p last q. let e = groups.group_done (assignments x c) section block i core p last q in
        (e.after, e.most, group_on p last e))

  pub item_leads : (c : LabelCounts) (due : Due) (i : ℕ) (core : List ℕ) → i ≤ last_word
      → ItemLeads x block (Program c due) i (item_step x c due block i core).item
  unfolding item_step
  item_leads c segment-due i core h = segment_leads c i h
  item_leads c (SegmentGroup g) i core h =
      group_leads c (SegmentGroup g) 0 i g.ibank
      (λ f. let d = (says_segment x c g).fact f in (d.0, d.1.0))
      (in-segment g) core h
  item_leads c (section-due t ibank) i core h = section_leads c t ibank i h
  item_leads c (SectionGroup t ibank) i core h =
      group_leads c (SectionGroup t ibank) (t.number.0 + 1) i ibank
      (λ f. let d = (says_table x c t ibank).fact f in (d.0, d.1.1))
      (in_section x t) core h

  -- an item that goes on goes to a later place, at most 255, and keeps the stage's numbers in their ranges
  module _ (c : LabelCounts) (due : Due) (i : ℕ) (core : List ℕ) (d : LabelCounts) (t : Due) (p : ℕ)
      (e : (item_step x c due block i core).item ≡ Go d t p)
      (h : i ≤ last_word) where
    leads : ItemLeads x block (Program c due) i (Go d t p)
    leads = rw e at (item_leads c due i core h)

    pub item_onward : (i < p) × (p ≤ 255)
    item_onward = (leads.0, leads.1)

    pub item_fits : StageFits x (Program c due) → StageFits x (Program d t)
    item_fits = leads.2
