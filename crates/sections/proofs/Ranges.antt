-- What the ranges of a stage's numbers say, and what has been seen to before a group is read.
use Prim.Native.Nat.{ℕ, ◌+◌, ◌≤◌, ◌<◌}
use mathlib.Core.Path.{◌≡◌}
use mathlib.Core.Bool.{Bool, true}
use mathlib.Core.List.{List}
use native.Mathlib.Omega.{arith}
use lib.ListN.{length, get_or}
use Rattle.program.specs.Sections.{last_word}
use Rattle.word.specs.declared.Area.{Area}
use Rattle.word.specs.declared.Reference.{Reference}
use Rattle.word.specs.Lists.{every}
use Rattle.word.specs.Runs.{Says}
use Rattle.word.proofs.Every.{every-place}
use Rattle.word.proofs.Says.{says_within, says_and, says_lt, says_le}
use Rattle.program.specs.declared.Bank.{Bank}
use Rattle.program.specs.declared.Segment.{Segment}
use Rattle.program.specs.declared.TableSection.{TableSection}
use Rattle.lists.specs.declared.Table.{Table as CoreTable}
use Rattle.lists.specs.Obey.{no_table, table_inside}
use Rattle.lists.proofs.Obey.{says_inside}
use Rattle.group.specs.declared.Section.{Section}
use Rattle.group.specs.declared.Section.TheVariants.{Segment as in-segment, Table as in_table}
use Rattle.group.specs.Group.{InArea, Ready}
use Rattle.stage.specs.declared.LabelCounts.{LabelCounts}
use Rattle.stage.specs.declared.Due.TheVariants.{Segment as segment-due, SegmentGroup, Section as section-due, SectionGroup}
use Rattle.stage.specs.declared.Stage.{Stage}
use Rattle.stage.specs.declared.Stage.TheVariants.{Program}
use Rattle.stage.specs.Ranges.{label_counts_fit, bank_fits, section_fits, due_fits, stage_fits}
use Rattle.lists.specs.declared.Given.{Given}
use Rattle.lists.specs.Load.{Load, load_of, Readable}
use Rattle.sections.specs.Waits.{Waits}

pub bank_inside : (area : Area) (b : Bank) → bank_fits area b ≡ true → b.at.0 + b.count ≤ area.size
unfolding bank_fits
bank_inside area b q = let f = (says_within b.at.0 b.count 0 area.size).fact q in omega arith

pub count-inside : (ts : List CoreTable) (t : TableSection) → section_fits ts t ≡ true
    → (t.number.0 < length ts) × (t.count ≤ (get_or ts t.number.0 no_table).len)
unfolding section_fits
count-inside ts t = (says_and (says_lt t.number.0 (length ts)) (says_le t.count (get_or ts t.number.0 no_table).len)).fact

-- a stage's numbers are in their ranges, and what that says of each stage that a program block is read for
abbrev pub StageFits : Load → Stage → Type 0
StageFits x s = stage_fits x.area x.tables (length x.ios) s ≡ true

abbrev pub LabelCountsFit : Load → LabelCounts → Type 0
LabelCountsFit x c = label_counts_fit (length x.ios) (length x.tables) c ≡ true

abbrev pub BankFits : Load → Bank → Type 0
BankFits x b = bank_fits x.area b ≡ true

says_true : (b : Bool) → Says b (b ≡ true)
says_true b = record { fact = λ q. q; test = λ q. q }

module _ (x : Load) (c : LabelCounts) where
  says_label-counts : Says (label_counts_fit (length x.ios) (length x.tables) c) (LabelCountsFit x c)
  says_label-counts = says_true (label_counts_fit (length x.ios) (length x.tables) c)

  says_bank : (b : Bank) → Says (bank_fits x.area b) (BankFits x b)
  says_bank b = says_true (bank_fits x.area b)

  -- the segment's head asks for nothing beside the label's counts
  pub says_first : Says (stage_fits x.area x.tables (length x.ios) (Program c segment-due))
      (LabelCountsFit x c × (◌≡◌ {A = Bool} true true))
  unfolding due_fits stage_fits
  says_first = says_and says_label-counts (says_true true)

  pub says_segment : (g : Segment)
      → Says (stage_fits x.area x.tables (length x.ios) (Program c (SegmentGroup g)))
      (LabelCountsFit x c × (BankFits x g.ibank × BankFits x g.dbank))
  unfolding due_fits stage_fits
  says_segment g = says_and says_label-counts (says_and (says_bank g.ibank) (says_bank g.dbank))

  pub says_section : (t : Reference) (ibank : Bank)
      → Says (stage_fits x.area x.tables (length x.ios) (Program c (section-due t ibank)))
      (LabelCountsFit x c × BankFits x ibank)
  unfolding due_fits stage_fits
  says_section t ibank = says_and says_label-counts (says_bank ibank)

  pub says_table : (t : TableSection) (ibank : Bank)
      → Says (stage_fits x.area x.tables (length x.ios) (Program c (SectionGroup t ibank)))
      (LabelCountsFit x c × ((section_fits x.tables t ≡ true) × BankFits x ibank))
  unfolding due_fits stage_fits
  says_table t ibank = says_and says_label-counts (says_and (says_true (section_fits x.tables t)) (says_bank ibank))

module _ (x : Load) where
  -- the section's room lies in the area
  pub segment_room : (c : LabelCounts) (g : Segment) → StageFits x (Program c (SegmentGroup g)) → InArea x.area (in-segment g)
  segment_room c g q =
      let f = (says_segment x c g).fact q in
      (bank_inside x.area g.ibank f.1.0, bank_inside x.area g.dbank f.1.1)

  pub table_there : (c : LabelCounts) (t : TableSection) (ibank : Bank) → StageFits x (Program c (SectionGroup t ibank))
      → (t.number.0 < length x.tables) × (t.count ≤ (get_or x.tables t.number.0 no_table).len)
  table_there c t ibank q = count-inside x.tables t ((says_table x c t ibank).fact q).1.0

  pub table_room : (c : LabelCounts) (t : TableSection) (ibank : Bank) → every (table_inside x.area) x.tables ≡ true
      → StageFits x (Program c (SectionGroup t ibank))
      → InArea x.area (in_table (get_or x.tables t.number.0 no_table) t.count)
  table_room c t ibank e q =
      let h = table_there c t ibank q in
      let f = (says_inside x.area (get_or x.tables t.number.0 no_table)).fact
      (every-place no_table (table_inside x.area) x.tables t.number.0 h.0 e) in
      (f.0, f.1, h.1)
  -- a load that waits for a group is ready for it

module _ (g : Given) (l : List ℕ) (readable : Readable g l) (block core : List ℕ) (i : ℕ) (place : i ≤ last_word) where
  abbrev x : Load
  x = load_of g l

  ready : (s : Stage) (section : Section) → InArea x.area section → Waits x s block core → Ready g l section block i core
  ready s section room w = record {
    lists = readable;
    inside = w.inside;
    most = w.most;
    room = room;
    long = w.long;
    words = w.words;
    place = place;
  }

  pub segment_ready : (c : LabelCounts) (s : Segment) → Waits x (Program c (SegmentGroup s)) block core
      → Ready g l (in-segment s) block i core
  segment_ready c s w = ready _ _ (segment_room x c s w.stage) w

  pub table_ready : (c : LabelCounts) (t : TableSection) (ibank : Bank) → Waits x (Program c (SectionGroup t ibank)) block core
      → Ready g l (in_table (get_or x.tables t.number.0 no_table) t.count) block i core
  table_ready c t ibank w = ready _ _ (table_room x c t ibank w.tables w.stage) w
