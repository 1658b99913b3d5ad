-- How the code goes through a program block: a group's answer, the core that an item leaves, and at every turn the items from place
-- i on decide.
use Prim.Native.Nat.{ℕ, zero, suc, ◌+◌, ◌-◌, ◌≤◌, ◌<◌}
use Rattle.std.specs.Prelude.{Result, Ok, Err}
use mathlib.Core.Path.{◌≡◌, refl, sym, ap, ◌∙◌}
use mathlib.Core.Bool.{Bool, true, false, ◌||◌}
use mathlib.Core.List.{List}
use native.Mathlib.Omega.{arith}
use lib.ListN.{length, get_or}
use lib.Dec.{leb}
use borrow.Author.Tests.{le-leb, lt-leb, leb-false, eq-eqb, ne_eqb}
use Rattle.program.specs.Sections.{last_word}
use Rattle.program.specs.Pieces.{closes}
use Rattle.word.specs.declared.Fault.{Fault}
use Rattle.word.specs.Fault.{further}
use Rattle.word.specs.Limits.{words_in_block}
use Rattle.word.specs.Lists.{every}
use Rattle.word.proofs.Cases.{by-test}
use Rattle.program.specs.declared.Bank.{Bank}
use Rattle.program.specs.declared.TableSection.{TableSection}
use Rattle.lists.specs.declared.Table.{Table as CoreTable}
use Rattle.lists.specs.declared.Given.{Given}
use Rattle.lists.specs.Obey.{no_table, table_inside}
use Rattle.lists.proofs.Reading.{core-length, core_at_lem}
use Rattle.field.specs.Field.{assigned_by}
use Rattle.group.specs.declared.GroupEnd.{GroupEnd}
use Rattle.group.specs.declared.Section.{Section}
use Rattle.group.specs.declared.Section.TheVariants.{Segment as in-segment}
use Rattle.group.specs.Group.{GroupOutcome, GroupMeets, InArea, group_step}
use Rattle.group.proofs.Group.{group_length}
use Rattle.stage.specs.declared.LabelCounts.{LabelCounts}
use Rattle.stage.specs.declared.Due.{Due}
use Rattle.stage.specs.declared.Due.TheVariants.{Segment as segment-due, SegmentGroup, Section as section-due, SectionGroup}
use Rattle.stage.specs.declared.Stage.{Stage}
use Rattle.stage.specs.declared.Stage.TheVariants.{Program, Termination}
use Rattle.std.specs.Prelude.{Err}
use Rattle.stage.specs.Step.{step_more}
use Rattle.sections.specs.declared.Item.{Item}
use Rattle.sections.specs.declared.Item.TheVariants.{Go, Last, Refused as Item-refused}
use Rattle.lists.specs.Load.{Load, load_of, core_table, core_tables, Readable}
use Rattle.sections.specs.Waits.{assignments, Waits}
use Rattle.sections.specs.declared.Turn.{Turn}
use Rattle.sections.specs.HowTurns.{item_of, turn_of, turn_after}
use Rattle.sections.specs.Program.{in_section, after_last, after_group, grouped, headed, item_step, ItemOutcome, ItemMeets, StepOutcome}
use Rattle.sections.specs.Program.{StepMeets, followed, program_from}
use Rattle.sections.proofs.Ranges.{StageFits, segment_room, table_there, table_room}
use Rattle.sections.proofs.Leads.{item_leads, item_onward, item_fits}

-- ---- a group: what its fields are changed by is what the code hands over
pub assigned_same : (g : Given) (l : List ℕ) (c : LabelCounts)
    → assigned_by (record { given = g; channels = c.channels }) l ≡ assignments (load_of g l) c
unfolding assigned_by
assigned_same g l c = refl

-- ---- an item, as the loop takes it
turn_back : (c : LabelCounts) (due : Due) (it : Item) → item_of c due (turn_of it) ≡ it
turn_back c due (Go d t p) = refl
turn_back c due (Last ibank) = refl
turn_back c due (Item-refused f) = refl

turn_after_lem : (c : LabelCounts) (same : Due) (least : ℕ) (ibank : Bank) (r : Result GroupEnd Fault)
    → item_of c same (turn_after c least ibank r) ≡ after_group c same least ibank r
unfolding after_group
turn_after_lem c same least ibank (Ok e) =
    by-test e.last
    (λ q. rw q (turn_back c same (after_last c least ibank e.past)))
    (λ q. rw q refl)
turn_after_lem c same least ibank (Err f) = refl

pub head_met : (c : LabelCounts) (due : Due) (it it' : Item) (r : Turn) (core : List ℕ) → it ≡ it' → r ≡ turn_of it
    → ItemMeets (headed it' core) (item_of c due r) core
head_met c due it it' r core e q = record { told = ap (item_of c due) q ∙ turn_back c due it ∙ e; left = refl }

pub group_met : (c : LabelCounts) (same : Due) (least : ℕ) (ibank : Bank) (o : GroupOutcome) (r : Result GroupEnd Fault) (core : List ℕ)
    (t : Turn)
    → GroupMeets o r core → t ≡ turn_after c least ibank r → ItemMeets (grouped c same least ibank o) (item_of c same t) core
group_met c same least ibank o r core t m e = record {
  told = ap (item_of c same) e ∙ turn_after_lem c same least ibank r ∙ ap (after_group c same least ibank) m.told;
  left = m.left;
}

-- a table section's table is there, so the one that the code reads is it
module _ (g : Given) (l : List ℕ) (readable : Readable g l) (c : LabelCounts) (t : TableSection) (ibank : Bank)
    (block core : List ℕ)
    (w : Waits (load_of g l) (Program c (SectionGroup t ibank)) block core) where
  there : t.number.0 < length (core_tables g l)
  there = (table_there (load_of g l) c t ibank w.stage).0

  pub table_number : t.number.0 < 128
  table_number = omega (arith, there, w.few)

  pub table-read : (r : CoreTable) → r ≡ core_table g l t.number.0 → r ≡ get_or (core_tables g l) t.number.0 no_table
  table-read r e = e ∙ sym (core_at_lem g l readable t.number.0 no_table (omega (arith, there, core-length g l readable)))

-- what the laws below ask of a load: its area lies in the core, its tables in the area, and its stage is in range
pub record InPlace (x : Load) (s : Stage) (core : List ℕ) : Type 0 where
  pub inside : x.area.at.0 + x.area.size ≤ length core
  pub tables : every (table_inside x.area) x.tables ≡ true
  pub stage : StageFits x s

pub stands : (x : Load) (s : Stage) (block core : List ℕ) → Waits x s block core → InPlace x s core
stands x s block core w = record { inside = w.inside; tables = w.tables; stage = w.stage }

module _ (x : Load) (block : List ℕ) where
  -- ---- an item: it leaves the core as it is, or it is a group whose section has its room in the area
  module _ (i : ℕ) (P : (List ℕ → ItemOutcome) → Type 0) (none : (it : Item) → P (headed it)) (c : LabelCounts)
      (group : (same : Due) (least : ℕ) (ibank : Bank) (section : Section) → InArea x.area section
      → P (λ core. grouped c same least ibank (group_step (assignments x c) section block i core))) where
    pub item_cases : (due : Due) → every (table_inside x.area) x.tables ≡ true → StageFits x (Program c due)
        → P (item_step x c due block i)
    unfolding item_step
    item_cases segment-due e f = none _
    item_cases (SegmentGroup g) e f = group (SegmentGroup g) 0 g.ibank (in-segment g) (segment_room x c g f)
    item_cases (section-due t ibank) e f = none _
    item_cases (SectionGroup t ibank) e f = group (SectionGroup t ibank) (t.number.0 + 1) ibank (in_section x t)
        (table_room x c t ibank e f)

  pub item_length : (c : LabelCounts) (due : Due) (i : ℕ) (core : List ℕ) → InPlace x (Program c due) core
      → length (item_step x c due block i core).core ≡ length core
  item_length c due i core w =
      item_cases i (λ (f : List ℕ → ItemOutcome). length (f core).core ≡ length core) (λ it. refl) c
      (λ same least ibank section room. group_length (assignments x c) section block i core room w.inside) due w.tables
      w.stage

  module _ (c : LabelCounts) (due : Due) (i : ℕ) (core : List ℕ) (d : LabelCounts) (t : Due) (p : ℕ)
      (e : (item_step x c due block i core).item ≡ Go d t p) (h : i ≤ last_word) where
    pub item_in_place : InPlace x (Program c due) core → InPlace x (Program d t) (item_step x c due block i core).core
    item_in_place w = record {
      inside = rw (item_length c due i core w) w.inside;
      tables = w.tables;
      stage = item_fits x block c due i core d t p e h w.stage;
    }

    -- what has been seen to still holds for the next one
    pub item_waits : Waits x (Program c due) block core → Waits x (Program d t) block (item_step x c due block i core).core
    item_waits w = let l = item_length c due i core (stands x (Program c due) block core w) in record {
      inside = rw l w.inside;
      most = rw l w.most;
      io = w.io;
      few = w.few;
      tables = w.tables;
      stage = item_fits x block c due i core d t p e h w.stage;
      long = w.long;
      words = w.words;
    }

  -- ---- the block
  follow_same : (i : ℕ) (it : Item) (core : List ℕ) (f g : LabelCounts → Due → ℕ → List ℕ → StepOutcome)
      → ((d : LabelCounts) (t : Due) (p : ℕ) → it ≡ Go d t p → f d t p core ≡ g d t p core)
      → followed i it core f ≡ followed i it core g
  follow_same i (Go d t p) core f g h = h d t p refl
  follow_same i (Last ibank) core f g h = refl
  follow_same i (Item-refused x) core f g h = refl

  pub open_place : (i : ℕ) → closes block i ≡ false → i ≤ last_word
  unfolding closes
  open_place i q = let k = leb-false 255 i (neither (leb 255 i) _ q) in omega arith
    where
      neither : (a b : Bool) → (a || b) ≡ false → a ≡ false
      neither true b h = h
      neither false b h = refl

  pub from_closed : (n : ℕ) (c : LabelCounts) (due : Due) (i : ℕ) (core : List ℕ) → closes block i ≡ true
      → program_from n x c due block i core ≡ record { step = step_more (Program c due); core = core }
  unfolding program_from
  from_closed zero c due i core q = refl
  from_closed (suc n) c due i core q = rw q

  past : (i : ℕ) → 255 ≤ i → closes block i ≡ true
  unfolding closes
  past i h = rw (le-leb 255 i h)

  pub from_open : (n : ℕ) (c : LabelCounts) (due : Due) (i : ℕ) (core : List ℕ) → closes block i ≡ false
      → program_from (suc n) x c due block i core
      ≡ followed i (item_step x c due block i core).item (item_step x c due block i core).core
      (λ d t p after. program_from n x d t block p after)
  unfolding program_from
  from_open n c due i core q = rw q

  -- more turns than there are words left make no difference
  pub fuel_enough : (n m : ℕ) (c : LabelCounts) (due : Due) (i : ℕ) (core : List ℕ) → 255 ≤ n + i → 255 ≤ m + i
      → program_from n x c due block i core ≡ program_from m x c due block i core
  fuel_enough zero m c due i core h k = from_closed 0 c due i core (past i (omega arith))
      ∙ sym (from_closed m c due i core (past i (omega arith)))
  fuel_enough (suc n) zero c due i core h k = from_closed (suc n) c due i core (past i (omega arith))
      ∙ sym (from_closed 0 c due i core (past i (omega arith)))
  fuel_enough (suc n) (suc m) c due i core h k = by-test (closes block i)
      (λ q. from_closed (suc n) c due i core q ∙ sym (from_closed (suc m) c due i core q))
      (λ q. from_open n c due i core q
      ∙ follow_same i (item_step x c due block i core).item (item_step x c due block i core).core _ _
      (λ d t p e.
      let o = item_onward x block c due i core d t p e (open_place i q) in
      fuel_enough n m d t p (item_step x c due block i core).core (omega arith) (omega arith))
      ∙ sym (from_open m c due i core q))

  -- ---- the code's loop, where `due` is due at place i: the items from there on decide the outcome o
  module _ (c : LabelCounts) (due : Due) (i : ℕ) (core : List ℕ) (o : StepOutcome) where
    pub turn_zero : i < 255 → get_or block i 0 ≡ 0 → o ≡ program_from (255 - i) x c due block i core
        → StepMeets o (step_more (Program c due)) core
    unfolding closes
    turn_zero h z q =
        rw (q ∙ from_closed (255 - i) c due i core (rw (lt-leb 255 i h, eq-eqb (get_or block i 0) 0 z)))
        (record { told = refl; left = refl })

    pub turn_end : 255 ≤ i → o ≡ program_from (255 - i) x c due block i core → StepMeets o (step_more (Program c due)) core
    turn_end h q = rw (q ∙ from_closed (255 - i) c due i core (past i h)) (record { told = refl; left = refl })

    module _ (h : i < 255) (z : get_or block i 0 ≡ 0 → ⊥) (q : o ≡ program_from (255 - i) x c due block i core) (it : Item)
        (after : List ℕ)
        (m : ItemMeets (item_step x c due block i core) it after) where
      opens : closes block i ≡ false
      unfolding closes
      opens = rw (lt-leb 255 i h, ne_eqb (get_or block i 0) 0 z)

      decides : o ≡ followed i it after (λ d t p rest. program_from (last_word - i) x d t block p rest)
      decides =
          let e : 255 - i ≡ suc (last_word - i) = omega arith in
          q ∙ rw (e, m.told, m.left) (from_open (last_word - i) c due i core opens)

      pub turn_on : (d : LabelCounts) (t : Due) (p : ℕ) → it ≡ Go d t p → (i < p) × (p ≤ 255)
          × (o ≡ program_from (255 - p) x d t block p after)
      turn_on d t p e =
          let l = item_onward x block c due i core d t p (sym m.told ∙ e) (omega arith) in
          (l.0, l.1, rw e at decides ∙ fuel_enough (last_word - i) (255 - p) d t p after (omega arith) (omega arith))

      pub turn_last : (ibank : Bank) → it ≡ Last ibank → StepMeets o (step_more (Termination ibank)) after
      turn_last ibank e = rw (rw e at decides) (record { told = refl; left = refl })

      pub turn_refused : (f : Fault) → it ≡ Item-refused f → StepMeets o (Err (further i f)) after
      turn_refused f e = rw (rw e at decides) (record { told = refl; left = refl })

      -- the word of the fault is in the block
      pub turn_place : (f : Fault) → it ≡ Item-refused f → i + f.word < words_in_block
      turn_place f e = (rw (sym m.told ∙ e) at (item_leads x block c due i core (omega arith))).inside

      pub turn_waits : (d : LabelCounts) (t : Due) (p : ℕ) → it ≡ Go d t p → Waits x (Program c due) block core
          → Waits x (Program d t) block after
      turn_waits d t p e w = rw m.left (item_waits c due i core d t p (sym m.told ∙ e) (omega arith) w)

      pub turn_length : Waits x (Program c due) block core → length after ≡ length core
      turn_length w = rw m.left (item_length c due i core (stands x (Program c due) block core w))
