-- A load that takes a file to its end: its area, zero before, holds the file's image.
use Prim.Native.Nat.{ℕ, suc, ◌+◌, ◌-◌, ◌≤◌, ◌<◌}
use mathlib.Core.Path.{◌≡◌, refl, sym, ap, ◌∙◌}
use mathlib.Core.Bool.{Bool, true, false}
use mathlib.Core.List.{List, [], ◌∷◌}
use native.Mathlib.Omega.{arith}
use lib.ListN.{length, get_or, drop}
use lib.Dec.{eqb, ltb}
use borrow.Author.Tests.{eqb-true, eqb-false, ltb-true, ltb-false}
use Rattle.program.specs.Sections.{last_word}
use Rattle.word.specs.Lists.{every, range}
use Rattle.word.proofs.Cases.{when, and_left, and_right}
use Rattle.block.specs.Records.{of_record}
use Rattle.label.specs.declared.Label.{Label as LabelWords}
use Rattle.std.specs.Prelude.{Result, Ok, Err}
use Rattle.word.specs.declared.Fault.{Fault}
use Rattle.label.specs.Label.{label_of, channel_count, io_count}
use Rattle.modification.specs.Assignments.{assignments_fit}
use Rattle.modification.specs.Entries.{entry_blocks}
use Rattle.program.specs.declared.Bank.{Bank}
use Rattle.program.specs.Pieces.{Piece}
use Rattle.program.specs.Start.{start_of, in_bank}
use Rattle.lists.specs.Obey.{table_inside}
use Rattle.group.specs.declared.Section.{Section}
use Rattle.stage.specs.declared.LabelCounts.{LabelCounts}
use Rattle.stage.specs.declared.Due.{Due}
use Rattle.stage.specs.declared.Due.TheVariants.{Segment as segment-due}
use Rattle.stage.specs.declared.Stage.{Stage}
use Rattle.stage.specs.declared.Stage.TheVariants.{Label, Entry, Program, Termination, Complete, Broken}
use Rattle.stage.specs.Step.{StepResult}
use Rattle.stage.specs.declared.Step.TheVariants.{More, Done}
use Rattle.stage.specs.Record.{record_due, is_over}
use Rattle.records.specs.Label.{label_counts_of, after_label, with_label, label_step}
use Rattle.records.specs.Entries.{entries_fit, after_entries, entry_step}
use Rattle.records.specs.Termination.{termination_step}
use Rattle.lists.specs.Load.{Load}
use Rattle.sections.specs.Program.{StepOutcome, program_step}
use Rattle.sections.proofs.Blocks.{program-not_done}
use Rattle.feed.specs.Block.{stores_nothing, due_step, block_step}
use Rattle.demands.specs.Image.{pieces, no_section, stores_from, stores_beyond, stores_of, image_of}
use Rattle.demands.specs.Taking.{TakesBy, Takes}
use Rattle.demands.proofs.Stores.{store_all, AllInside, stores_image}
use Rattle.demands.proofs.FromHeads.{no_stores}
use Rattle.demands.proofs.Running.{Comes, given, Awaits, Reads, program_leads}

-- a list without its first element
drop_one : {A : Type 0} (n : ℕ) (b : A) (bs : List A) → drop (1 + n) (b ∷ bs) ≡ drop n bs
drop_one n b bs = let e : 1 + n ≡ suc n = omega arith in rw e

module _ (x : Load) (after : List ℕ) where
  -- what a block's step leads to is taken, and then the blocks
  abbrev Then : List (List ℕ) → StepOutcome → Type 0
  Then blocks o = TakesBy o.step (λ u. Takes x u o.core blocks Complete after)

  -- a load that is complete takes no more
  nothing_more : (core : List ℕ) (blocks : List (List ℕ)) → Takes x Complete core blocks Complete after → core ≡ after
  unfolding Takes is_over
  nothing_more core [] h = h.1
  nothing_more core (block ∷ blocks) h = let z : true ≡ false = h.0 in let y : ◌≡◌ {A = ℕ} 0 1 = cc in absurd (omega arith)

  -- ---- program blocks, and the termination block
  module _ (channels : ℕ) (tables : every (table_inside x.area) x.tables ≡ true) where
    module _ (block : List ℕ) (blocks : List (List ℕ)) (core : List ℕ)
        (ih : (s : Stage) (core' : List ℕ) → Takes x s core' blocks Complete after
        → Reads x channels after s core' (pieces blocks)) where
      program_by : (c : LabelCounts) (due : Due) (r : StepResult) → (program_step x c due block core).step ≡ r
          → TakesBy r (λ u. Takes x u (program_step x c due block core).core blocks Complete after)
          → Reads x channels after (Program c due) core (pieces (block ∷ blocks))
      unfolding program_step pieces
      program_by c due (Ok (More t)) e h =
          program_leads x channels tables block t (pieces blocks) after last_word c due 1 core e (ih t _ h)
      program_by c due (Ok (Done a)) e h = absurd (program-not_done x block c due core a e)
      program_by c due (Err f) e h = absurd h

      program_run : (c : LabelCounts) (due : Due) → Then blocks (program_step x c due block core)
          → Reads x channels after (Program c due) core (pieces (block ∷ blocks))
      unfolding program_step
      program_run c due h = program_by c due (program_step x c due block core).step refl h

      over : (section : Section) (ps : List Piece) → Takes x Complete core blocks Complete after
          → Comes x.area core (stores_from (given x channels) 0 section ps) after
      unfolding store_all AllInside
      over section ps h =
          rw (no_stores (given x channels) section ps) (record { last = sym (nothing_more core blocks h); inside = tt })

      termination_run : (b : Bank) → Then blocks (stores_nothing (termination_step x.area b block) core)
          → Reads x channels after (Termination b) core (pieces (block ∷ blocks))
      unfolding termination_step
      termination_run b =
          when (λ (r : StepResult). Then blocks (stores_nothing r core)
          → Reads x channels after (Termination b) core (pieces (block ∷ blocks)))
          (in_bank b (start_of block))
          (λ _ h section st. over section (pieces (block ∷ blocks)) h)
          (λ _ h. absurd h)

      due_run : (s : Stage) → Then blocks (due_step x s block core) → Reads x channels after s core (pieces (block ∷ blocks))
      unfolding due_step
      due_run Label h section st = absurd st
      due_run (Entry c exact b) h section st = absurd st
      due_run (Program c due) h section st = program_run c due h section st
      due_run (Termination b) h section st = termination_run b h section st
      due_run Complete h section st = absurd st
      due_run Broken h section st = absurd st

    run : (s : Stage) (core : List ℕ) (blocks : List (List ℕ)) → Takes x s core blocks Complete after
        → Reads x channels after s core (pieces blocks)
    unfolding Takes block_step
    run s core [] h = λ section st. let z : Awaits x channels Complete section = rw h.0 at st in absurd z
    run s core (block ∷ blocks) h =
        when (λ (o : StepOutcome). Then blocks o → Reads x channels after s core (pieces (block ∷ blocks)))
        (of_record (record_due s) block)
        (λ _ k. due_run block blocks core (λ u core' g. run u core' blocks g) s k)
        (λ _ k. absurd k)
        h.1

    -- ---- modification blocks: from block b on there are as many as are still to come
    abbrev many : ℕ
    many = entry_blocks (length x.ios) (length x.tables)

    module _ (c : LabelCounts) (exact : Bool) where
      abbrev Left : ℕ → List ℕ → List (List ℕ) → Type 0
      Left n core blocks = Reads x channels after (Program c segment-due) core (pieces (drop n blocks))

      entry_run : (b : ℕ) (core : List ℕ) (blocks : List (List ℕ)) → b < many → Takes x (Entry c exact b) core blocks Complete after
          → Left (many - b) core blocks
      unfolding Takes block_step due_step entry_step after_entries
      entry_run b core [] l h = let e : Entry c exact b ≡ Complete = h.0 in let z : ◌≡◌ {A = ℕ} 0 1 = cc in absurd (omega arith)
      entry_run b core (block ∷ blocks) l h =
          when (λ (o : StepOutcome). Then blocks o → Left (many - b) core (block ∷ blocks))
          (of_record (record_due (Entry c exact b)) block)
          (λ _. when (λ (r : StepResult). Then blocks (stores_nothing r core) → Left (many - b) core (block ∷ blocks))
          (entries_fit (length x.ios) x.tables exact b block)
          (λ _. when (λ (s : Stage). Takes x s core blocks Complete after → Left (many - b) core (block ∷ blocks))
          (ltb (b + 1) many)
          (λ q k. rw (next (ltb-true (b + 1) many q)) (entry_run (b + 1) core blocks (ltb-true (b + 1) many q) k))
          (λ q k. rw (last (ltb-false (b + 1) many q)) (run (Program c segment-due) core blocks k)))
          (λ _ k. absurd k))
          (λ _ k. absurd k)
          h.1
        where
          next : b + 1 < many → many - b ≡ suc (many - (b + 1))
          next k = omega arith

          last : many ≤ b + 1 → many - b ≡ 1
          last k = omega arith

  -- ---- the label
  module _ (tables : every (table_inside x.area) x.tables ≡ true) (core block : List ℕ) (blocks : List (List ℕ)) where
    abbrev Whole : Result LabelWords Fault → Type 0
    Whole r = Comes x.area core (stores_beyond x.area x.tables x.ios r (block ∷ blocks)) after

    -- the lists have as many entries as the label says
    beyond : (l : LabelWords) → assignments_fit l x.ios (length x.tables) ≡ true
        → Reads x (channel_count l) after (Program (label_counts_of l) segment-due) core
        (pieces (drop (many (channel_count l) tables) blocks)) → Whole (Ok l)
    unfolding assignments_fit stores_beyond
    beyond l q h =
        let a : length x.ios ≡ io_count l = eqb-true _ _ (and_left (eqb (length x.ios) (io_count l)) _ q) in
        let b : length x.tables ≡ l.tables =
        eqb-true _ _ (and_left (eqb (length x.tables) l.tables) _ (and_right (eqb (length x.ios) (io_count l)) _ q)) in
        let e : 1 + l.sections ≡ suc l.sections = omega arith in
        rw (← a, ← b, e, drop_one (many (channel_count l) tables) block blocks) (h no_section refl)

    label_by : (l : LabelWords) → assignments_fit l x.ios (length x.tables) ≡ true
        → Takes x (after_label (length x.ios) (length x.tables) l) core blocks Complete after → Whole (Ok l)
    unfolding after_label
    label_by l f =
        when (λ (s : Stage). Takes x s core blocks Complete after → Whole (Ok l)) (eqb (many (channel_count l) tables) 0)
        (λ q k. beyond l f (rw (eqb-true (many (channel_count l) tables) 0 q)
        (run (channel_count l) tables (Program (label_counts_of l) segment-due) core blocks k)))
        (λ q k. let e : many (channel_count l) tables - 0 ≡ many (channel_count l) tables = omega arith in
        beyond l f (rw e at (entry_run (channel_count l) tables (label_counts_of l) l.exact 0 core blocks (some q) k)))
      where
        some : eqb (many (channel_count l) tables) 0 ≡ false → 0 < many (channel_count l) tables
        some q = omega (arith, eqb-false (many (channel_count l) tables) 0 q)

    label_run : (r : Result LabelWords Fault) → Then blocks (stores_nothing (with_label x.ios (length x.tables) r) core) → Whole r
    unfolding with_label
    label_run (Ok l) =
        when (λ (r : StepResult). Then blocks (stores_nothing r core) → Whole (Ok l))
        (assignments_fit l x.ios (length x.tables))
        (λ q k. label_by l q k)
        (λ _ k. absurd k)
    label_run (Err f) = λ k. absurd k

  pub file_comes : (core : List ℕ) (file : List (List ℕ)) → every (table_inside x.area) x.tables ≡ true
      → Takes x Label core file Complete after
      → Comes x.area core (stores_of x.area x.tables x.ios file) after
  unfolding Takes block_step due_step label_step stores_of record_due
  file_comes core [] t h = let e : Label ≡ Complete = h.0 in let z : ◌≡◌ {A = ℕ} 0 1 = cc in absurd (omega arith)
  file_comes core (block ∷ blocks) t h = label_run t core block blocks (label_of block) h.1

-- the image theorem for one load by itself
pub image_is : (x : Load) (core after : List ℕ) (file : List (List ℕ))
    → x.area.at.0 + x.area.size ≤ length core
    → every (table_inside x.area) x.tables ≡ true
    → ((k : ℕ) → k < x.area.size → get_or core (x.area.at.0 + k) 0 ≡ 0)
    → Takes x Label core file Complete after
    → range after x.area.at.0 x.area.size ≡ image_of x.area x.tables x.ios file
unfolding image_of
image_is x core after file h t z k =
    let c = file_comes x after core file t k in
    ap (λ (l : List ℕ). range l x.area.at.0 x.area.size) c.last
    ∙ stores_image x.area (stores_of x.area x.tables x.ios file) core h c.inside z
