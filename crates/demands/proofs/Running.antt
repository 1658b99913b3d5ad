-- A program block that is accepted: the core is left as the stores of its pieces leave it, and what is due then decides the rest.
use Prim.Native.Nat.{ℕ, zero, suc, ◌+◌, ◌-◌, ◌≤◌}
use mathlib.Core.Path.{◌≡◌, refl}
use mathlib.Core.Bool.{Bool, true, false, cond}
use mathlib.Core.List.{List, ◌∷◌, ◌++◌}
use native.Mathlib.Omega.{arith}
use lib.ListN.{length, get_or}
use lib.Dec.{eqb, leb, ltb}
use borrow.Author.Tests.{eqb-true, eqb-false, ltb-true, leb-true}
use Rattle.word.specs.Lists.{every, splice}
use Rattle.word.specs.declared.Absolute.{Absolute}
use Rattle.word.specs.declared.Area.{Area}
use Rattle.word.specs.declared.Fault.{Fault}
use Rattle.word.specs.Fault.{fault, further}
use Rattle.word.proofs.Cases.{when, and_left, and_right}
use Rattle.word.proofs.Says.{says_within}
use Rattle.word.proofs.Every.{every-place}
use Rattle.word.proofs.Lists.{length-range_most}
use Rattle.program.specs.declared.Bank.{Bank}
use Rattle.program.specs.declared.Segment.{Segment}
use Rattle.std.specs.Prelude.{Result, Ok, Err}
use Rattle.program.specs.declared.TableSection.{TableSection}
use Rattle.program.specs.declared.Group.{Group}
use Rattle.program.specs.Sections.{last_word, segment_of, table_section_of}
use Rattle.program.specs.Pieces.{closes, Piece, pieces_from}
use Rattle.program.proofs.Heads.{head_group, head_table, head_segment}
use Rattle.program.proofs.Pieces.{no_fuel, no_pieces}
use Rattle.lists.specs.declared.Table.{Table as CoreTable}
use Rattle.lists.specs.Obey.{no_table, table_inside}
use Rattle.field.specs.Field.{Assignments}
use Rattle.group.specs.declared.Section.{Section}
use Rattle.group.specs.declared.Section.TheVariants.{Segment as InSegment, Table as InTable}
use Rattle.group.specs.Group.{ended, GroupOutcome, program_words, indicator_bits_in, group_step, InArea}
use Rattle.group.proofs.Places.{Lies, words_lie_lem}
use Rattle.group.proofs.Words.{changed-many}
use Rattle.group.proofs.Group.{Goes as GroupGoes, Gives, group_outcomes}
use Rattle.stage.specs.declared.LabelCounts.{LabelCounts}
use Rattle.stage.specs.declared.Due.{Due}
use Rattle.stage.specs.declared.Due.TheVariants.{Segment as segment-due, SegmentGroup, Section as section-due, SectionGroup}
use Rattle.stage.specs.declared.Stage.{Stage}
use Rattle.stage.specs.declared.Stage.TheVariants.{Label, Entry, Program, Termination, Complete, Broken}
use Rattle.stage.specs.Ranges.{bank_fits, section_fits}
use Rattle.stage.specs.Step.{step_more}
use Rattle.sections.specs.declared.Item.{Item}
use Rattle.sections.specs.declared.Item.TheVariants.{Go, Last}
use Rattle.lists.specs.Load.{Load}
use Rattle.sections.specs.Waits.{assignments}
use Rattle.sections.specs.Heads.{banks_fit, with_segment, segment_step, with_section, section_step}
use Rattle.sections.specs.Program.{after_last, after_group, item_step, followed, StepOutcome, program_from}
use Rattle.demands.specs.Image.{Store, store_of, table_section, stores_from}
use Rattle.demands.proofs.Stores.{store_all, Inside, AllInside}
use Rattle.demands.proofs.FromHeads.{stores_segment, stores_table, stores_group, no_stores}

-- the core comes to be `after` by stores that lie in the area
pub record Comes (area : Area) (core : List ℕ) (stores : List Store) (after : List ℕ) : Type 0 where
  pub last : after ≡ store_all core stores
  pub inside : AllInside area stores

comes_on : (area : Area) (core after : List ℕ) (s : Store) (later : List Store) → Inside area s
    → Comes area (splice core s.at s.words) later after → Comes area core (s ∷ later) after
unfolding store_all AllInside
comes_on area core after s later h c = record { last = c.last; inside = (h, c.inside) }

-- ---- what is due, as the image sees it: how many sections are still to end, and the section that a group would belong to. The
-- course has one section fewer from the head of a table section on.
abbrev pub left_in : Stage → ℕ
left_in Label = 0
left_in (Entry c exact b) = 0
left_in (Program c segment-due) = suc c.sections
left_in (Program c (SegmentGroup g)) = suc c.sections
left_in (Program c (section-due t b)) = suc (c.sections - 1)
left_in (Program c (SectionGroup t b)) = suc c.sections
left_in (Termination b) = 0
left_in Complete = 0
left_in Broken = 0

abbrev pub given : Load → ℕ → Assignments
given x channels = record { area = x.area; tables = x.tables; ios = x.ios; channels = channels }

-- the section lies in the area; `channels` is the label's count of references of types 0 and 2
pub record Housing (x : Load) (channels : ℕ) (c : LabelCounts) (own section : Section) : Type 0 where
  pub count : c.channels ≡ channels
  pub same : section ≡ own
  pub room : InArea x.area own

abbrev pub Awaits : Load → ℕ → Stage → Section → Type 0
Awaits x channels Label section = ⊥
Awaits x channels (Entry c exact b) section = ⊥
Awaits x channels (Program c segment-due) section = c.channels ≡ channels
Awaits x channels (Program c (SegmentGroup g)) section = Housing x channels c (InSegment g) section
Awaits x channels (Program c (section-due t b)) section = c.channels ≡ channels
Awaits x channels (Program c (SectionGroup t b)) section = Housing x channels c (table_section x.tables t) section
Awaits x channels (Termination b) section = Unit {0}
Awaits x channels Complete section = ⊥
Awaits x channels Broken section = ⊥

-- ---- a head that is accepted says a section that lies in the area
bank_room : (area : Area) (b : Bank) → bank_fits area b ≡ true → b.at.0 + b.count ≤ area.size
unfolding bank_fits
bank_room area b q = let f = (says_within b.at.0 b.count 0 area.size).fact q in omega arith

banks_room : (area : Area) (ts : List CoreTable) (g : Segment) → banks_fit area ts g ≡ true → InArea area (InSegment g)
unfolding banks_fit
banks_room area ts g q = (
  bank_room area g.ibank (and_left (bank_fits area g.ibank) _ q),
  bank_room area g.dbank (and_left (bank_fits area g.dbank) _ (and_right (bank_fits area g.ibank) _ q)),
)

table_room : (area : Area) (ts : List CoreTable) (t : TableSection) → every (table_inside area) ts ≡ true → section_fits ts t ≡ true
    → InArea area (InTable (get_or ts t.number.0 no_table) t.count)
unfolding section_fits table_inside
table_room area ts t h q =
    let k = get_or ts t.number.0 no_table in
    let b = ltb-true t.number.0 (length ts) (and_left _ _ q) in
    let f = (says_within k.at.0 k.len area.at.0 area.size).fact
    (every-place no_table (table_inside area) ts t.number.0 b h) in
    (f.0, f.1, leb-true t.count k.len (and_right (ltb t.number.0 (length ts)) _ q))

-- where s is due, the pieces ps store what is still to come; `after` is the core after all
abbrev pub Reads : Load → ℕ → List ℕ → Stage → List ℕ → List Piece → Type 0
Reads x channels after s core ps = (section : Section) → Awaits x channels s section
    → Comes x.area core (stores_from (given x channels) (left_in s) section ps) after

-- ---- a block, from any of its places on: t is what is due after it, `rest` the pieces of the blocks after it
module _ (x : Load) (channels : ℕ) (tables : every (table_inside x.area) x.tables ≡ true) (block : List ℕ) (t : Stage)
    (rest : List Piece) (after : List ℕ) where
  abbrev a : Assignments
  a = given x channels

  -- where an outcome leads to t, the rest decides
  abbrev pub LeadsTo : StepOutcome → Type 0 → Type 0
  LeadsTo o P = o.step ≡ step_more t → Reads x channels after t o.core rest → P

  stays : (s : Stage) (core : List ℕ) → LeadsTo (record { step = step_more s; core = core }) (Reads x channels after s core rest)
  stays s core q k = let e : s ≡ t = cc in rw e k

  refuses : (P : Type 0) (f : Fault) (core : List ℕ) → LeadsTo (record { step = Err f; core = core }) P
  refuses P f core q k = let z : ◌≡◌ {A = ℕ} 0 1 = cc in absurd (omega arith)

  -- the item at place i, and then n items at most
  module _ (n i : ℕ) (core : List ℕ) (more : closes block i ≡ false)
      (ih : (d : LabelCounts) (u : Due) (p : ℕ) (core' : List ℕ)
      → LeadsTo (program_from n x d u block p core')
      (Reads x channels after (Program d u) core' (pieces_from n block p ++ rest))) where
    abbrev then : Item → List ℕ → StepOutcome
    then item core' = followed i item core' (λ d u p core''. program_from n x d u block p core'')

    abbrev ps : List Piece
    ps = pieces_from (suc n) block i ++ rest

    -- ---- a group
    module _ (c : LabelCounts) (same : Due) (least : ℕ) (ibank : Bank) (section : Section) (q : c.channels ≡ channels)
        (room : InArea x.area section)
        (left : left_in (Program c same) ≡ suc c.sections) (stands : Awaits x channels (Program c same) section) where
      -- m sections are to end after it
      abbrev Goes : ℕ → List ℕ → ℕ → Item → Type 0
      Goes p core' m item = LeadsTo (then item core')
          (Comes x.area core' (stores_from a m section (pieces_from n block p ++ rest)) after)

      over : (p : ℕ) (core' : List ℕ) → c.sections ≡ 0 → Goes p core' c.sections (Last ibank)
      over p core' z e k =
          rw (z, no_stores a section (pieces_from n block p ++ rest))
          (rw (no_stores a section rest) at (stays (Termination ibank) core' e k section tt))

      goes : (p : ℕ) (core' : List ℕ) (last : Bool)
          → Goes p core' (cond last c.sections (suc c.sections)) (cond last (after_last c least ibank p) (Go c same p))
      unfolding after_last
      goes p core' true =
          when (Goes p core' c.sections) (eqb c.sections 0)
          (λ z. over p core' (eqb-true c.sections 0 z))
          (λ z e k. let s : suc (c.sections - 1) ≡ c.sections = omega (arith, eqb-false c.sections 0 z) in
          rw s at (ih c (section-due (record { 0 = least }) ibank) p core' e k section q))
      goes p core' false = λ e k. rw left at (ih c same p core' e k section stands)

      module _ (g : Group) (to : Absolute) (vs : List ℕ) (h : GroupGoes (assignments x c) section block i g to)
          (e : Gives (assignments x c) block i g vs) where
        abbrev store : Store
        store = record { at = to.0; words = vs }

        store_is : store_of a section block i g ≡ store
        unfolding store_of
        store_is = let d : Gives a block i g vs = rw q at e in rw (h.lies, h.address, d)

        store-inside : Inside x.area store
        store-inside =
            let l : Lies x.area g to = rw h.address at (words_lie_lem x.area section g room h.lies) in
            let m = rw e at (changed-many (assignments x c) (indicator_bits_in block i g) 0 (program_words block i g)) in
            record { first = l.low; last = omega (arith, m, l.high, length-range_most block (i + 1) g.program) }

        stored_leads : LeadsTo (then (after_group c same least ibank (ended (i + 1 + g.words) g.last))
            (splice core to.0 vs))
            (Comes x.area core (stores_from a (suc c.sections) section ps) after)
        unfolding after_group
        stored_leads r k =
            rw (stores_group block i a c.sections section n rest more g (head_group block i g h.read), store_is)
            (comes_on x.area core after store _ store-inside (goes (i + 1 + g.words) (splice core to.0 vs) g.last r k))

      group_leads : LeadsTo (then (after_group c same least ibank (group_step (assignments x c) section block i core).answer)
          (group_step (assignments x c) section block i core).core)
          (Comes x.area core (stores_from a (suc c.sections) section ps) after)
      unfolding after_group
      group_leads =
          group_outcomes (assignments x c) section block i core
          (λ (o : GroupOutcome). LeadsTo (then (after_group c same least ibank o.answer) o.core)
          (Comes x.area core (stores_from a (suc c.sections) section ps) after))
          (λ f. refuses _ (further i f) _)
          (λ g to f h. refuses _ (further i f) _)
          (λ g to vs h t e. stored_leads g to vs h e)

    -- ---- the segment's head
    module _ (c : LabelCounts) where
      abbrev Heads : Item → Type 0
      Heads item = LeadsTo (then item core) (Reads x channels after (Program c segment-due) core ps)

      segment-read_leads : (r : Result Segment Fault) → segment_of (get_or block i 0) (get_or block (i + 1) 0) ≡ r
          → Heads (with_segment x.area x.tables c (i + 4) r)
      unfolding with_segment
      segment-read_leads (Ok g) e =
          when Heads (banks_fit x.area x.tables g)
          (λ f r k section st.
          rw (stores_segment block i a c.sections section n rest more g (head_segment block i g e))
          (ih c (SegmentGroup g) (i + 4) core r k (InSegment g)
          (record { count = st; same = refl; room = banks_room x.area x.tables g f })))
          (λ f. refuses _ (further i (fault 17)) core)
      segment-read_leads (Err f) e = refuses _ (further i f) core

      segment_leads : Heads (segment_step x.area x.tables c block i)
      unfolding segment_step
      segment_leads =
          when Heads (leb (i + 3) last_word)
          (λ _. segment-read_leads (segment_of (get_or block i 0) (get_or block (i + 1) 0)) refl)
          (λ _. refuses _ (further i (fault 17)) core)

    -- ---- a table section's head
    module _ (c : LabelCounts) (least : ℕ) (ibank : Bank) where
      abbrev Tables : Item → Type 0
      Tables item = LeadsTo (then item core) (Reads x channels after (Program c (section-due (record { 0 = least }) ibank)) core ps)

      section_read_leads : (r : Result TableSection Fault) → table_section_of (get_or block i 0) ≡ r
          → Tables (with_section x.tables c least ibank (i + 1) r)
      unfolding with_section
      section_read_leads (Ok s) e =
          when Tables (leb least s.number.0)
          (λ _. when Tables (section_fits x.tables s)
          (λ f r k section st.
          rw (stores_table block i a (c.sections - 1) section n rest more s (head_table block i s e))
          (ih (record { channels = c.channels; sections = c.sections - 1 }) (SectionGroup s ibank) (i + 1) core r k
          (table_section x.tables s)
          (record { count = st; same = refl; room = table_room x.area x.tables s tables f })))
          (λ f. refuses _ (further i (fault 17)) core))
          (λ _. refuses _ (further i (fault 17)) core)
      section_read_leads (Err f) e = refuses _ (further i f) core

      section_leads : Tables (section_step x.tables c least ibank block i)
      unfolding section_step
      section_leads = section_read_leads (table_section_of (get_or block i 0)) refl

    -- ---- the item, by what is due
    item_leads : (c : LabelCounts) (due : Due)
        → LeadsTo (then (item_step x c due block i core).item (item_step x c due block i core).core)
        (Reads x channels after (Program c due) core ps)
    unfolding item_step
    item_leads c segment-due r k section st = segment_leads c r k section st
    item_leads c (SegmentGroup g) r k section st =
        rw st.same
        (group_leads c (SegmentGroup g) 0 g.ibank (InSegment g) st.count st.room refl
        (record { count = st.count; same = refl; room = st.room }) r k)
    item_leads c (section-due u b) r k section st = section_leads c u.0 b r k section st
    item_leads c (SectionGroup u b) r k section st =
        rw st.same
        (group_leads c (SectionGroup u b) (u.number.0 + 1) b (table_section x.tables u) st.count st.room refl
        (record { count = st.count; same = refl; room = st.room }) r k)

  pub program_leads : (n : ℕ) (c : LabelCounts) (due : Due) (i : ℕ) (core : List ℕ)
      → LeadsTo (program_from n x c due block i core) (Reads x channels after (Program c due) core (pieces_from n block i ++ rest))
  unfolding program_from
  program_leads zero c due i core = rw (no_fuel block i) (stays (Program c due) core)
  program_leads (suc n) c due i core =
      when (λ (o : StepOutcome). LeadsTo o (Reads x channels after (Program c due) core (pieces_from (suc n) block i ++ rest)))
      (closes block i)
      (λ q. rw (no_pieces block i (suc n) q) (stays (Program c due) core))
      (λ q. item_leads n i core q (λ d u p core'. program_leads n d u p core') c due)
