-- What a program block does, whatever it answers: the next stage's numbers are in their ranges, a refusal is from 17 to 21 at its
-- place, the core keeps its length, no word outside the area changes, what is stored is a word, and neither the answer nor the area's words
-- hang on the rest of the core.
use Prim.Native.Nat.{ℕ, zero, suc}
use mathlib.Core.Path.{◌≡◌, refl, sym, ap, ◌∙◌}
use mathlib.Core.Bool.{true}
use mathlib.Core.List.{List}
use lib.ListN.{length, get_or}
use Rattle.program.specs.Sections.{last_word}
use Rattle.program.specs.Pieces.{closes, Piece, pieces_from, pieces_of, OneOf}
use Rattle.program.proofs.Pieces.{group_here, later_piece}
use Rattle.word.specs.declared.Absolute.{Absolute}
use Rattle.word.specs.declared.Fault.{Fault}
use Rattle.word.specs.Lists.{every}
use Rattle.word.specs.Word.{is_word}
use Rattle.word.proofs.Cases.{by-test}
use Rattle.word.proofs.Stretch.{Beside}
use Rattle.group.proofs.Acts.{Alike, group_same, group_alike}
use Rattle.group.proofs.Faults.{Stands}
use Rattle.group.proofs.Group.{group_area, group_words_lem}
use Rattle.group.proofs.Stored.{StoredWords, stored-none, stored-then}
use Rattle.stage.specs.declared.LabelCounts.{LabelCounts}
use Rattle.stage.specs.declared.Due.{Due}
use Rattle.stage.specs.declared.Stage.{Stage}
use Rattle.stage.specs.declared.Stage.TheVariants.{Program}
use Rattle.std.specs.Prelude.{Ok, Err}
use Rattle.stage.specs.Step.{StepResult, step_more, step_done}
use Rattle.stage.specs.declared.Step.TheVariants.{More, Done}
use Rattle.sections.specs.declared.Item.{Item}
use Rattle.sections.specs.declared.Item.TheVariants.{Go, Last, Refused as Item-refused}
use Rattle.lists.specs.Load.{Load}
use Rattle.sections.specs.Waits.{assignments}
use Rattle.sections.specs.Program.{after_group, item_step, ItemOutcome, StepOutcome, StepMeets, followed, program_from}
use Rattle.sections.specs.Program.{program_step}
use Rattle.sections.proofs.Ranges.{StageFits}
use Rattle.sections.proofs.Leads.{OfProgram, StepTold, GoesOn, ItemLeads, item_leads}
use Rattle.sections.proofs.Turns.{item_cases, item_length, InPlace, item_in_place, open_place}

-- two outcomes that meet the contract are equal
pub one_outcome : (o : StepOutcome) (r r' : StepResult) (core core' : List ℕ) → StepMeets o r core → StepMeets o r' core' → (r ≡ r')
    × (core ≡ core')
one_outcome o r r' core core' p q = (p.told ∙ sym q.told, p.left ∙ sym q.left)

-- ---- the answer
module _ (x : Load) (block : List ℕ) where
  -- an answer for the next stage is one for this stage
  told-through : (s t : Stage) (r : StepResult) → (StageFits x s → StageFits x t) → StepTold x block t r → StepTold x block s r
  told-through s t (Ok (More u)) h k = λ f. k (h f)
  told-through s t (Ok (Done a)) h k = k
  told-through s t (Err f) h k = k

  follow_told : (s : Stage) (i : ℕ) (it : Item) (core : List ℕ) (next : LabelCounts → Due → ℕ → List ℕ → StepOutcome)
      → ItemLeads x block s i it → Stands block i
      → ((d : LabelCounts) (t : Due) (p : ℕ) → GoesOn block i p → StepTold x block (Program d t) (next d t p core).step)
      → StepTold x block s (followed i it core next).step
  follow_told s i (Go d t p) core next l g h = told-through s (Program d t) (next d t p core).step l.2 (h d t p l.3)
  follow_told s i (Last ibank) core next l g h = l
  follow_told s i (Item-refused f) core next l g h = (l.number, l.place g)

  -- from place i on: the pieces that are left there are the block's
  from_told : (n : ℕ) (c : LabelCounts) (due : Due) (i : ℕ) (core : List ℕ)
      → ((q : Piece) → OneOf q (pieces_from n block i) → OneOf q (pieces_of block))
      → StepTold x block (Program c due) (program_from n x c due block i core).step
  unfolding program_from
  from_told zero c due i core k = λ f. f
  from_told (suc n) c due i core k = by-test (closes block i)
      (λ q. rw q (λ f. f))
      (λ q. rw q
      (follow_told (Program c due) i (item_step x c due block i core).item (item_step x c due block i core).core _
      (item_leads x block c due i core (open_place x block i q))
      (λ g e. k _ (group_here block i n q g e))
      (λ d t p on. from_told n d t p (item_step x c due block i core).core (λ r o. k r (later_piece (on n q) r o)))))

  module _ (c : LabelCounts) (due : Due) (core : List ℕ) where
    program-told : StepTold x block (Program c due) (program_step x c due block core).step
    unfolding program_step
    program-told = from_told last_word c due 1 core (λ q o. o)

    pub program-fits : (t : Stage) → StageFits x (Program c due) → (program_step x c due block core).step ≡ step_more t → StageFits x t
    program-fits t f e = (rw e at program-told) f

    pub program-not_done : (a : Absolute) → (program_step x c due block core).step ≡ step_done a → ⊥
    program-not_done a e = rw e at program-told

    pub program_faults : (f : Fault) → (program_step x c due block core).step ≡ Err f → OfProgram block f
    program_faults f e = rw e at program-told

-- ---- the core
module _ (x : Load) (block : List ℕ) where
  -- what each item keeps, the block keeps
  module _ (P : List ℕ → List ℕ → Type 0) (same : (core : List ℕ) → P core core) (both : (a b c : List ℕ) → P a b → P b c → P a c)
      (item : (c : LabelCounts) (due : Due) (i : ℕ) (core : List ℕ) → InPlace x (Program c due) core
      → P core (item_step x c due block i core).core) where
    follow_keeps : (i : ℕ) (core : List ℕ) (it : Item) (after : List ℕ) (next : LabelCounts → Due → ℕ → List ℕ → StepOutcome) → P core after
        → ((d : LabelCounts) (t : Due) (p : ℕ) → it ≡ Go d t p → P after (next d t p after).core)
        → P core (followed i it after next).core
    follow_keeps i core (Go d t p) after next h k = both core after (next d t p after).core h (k d t p refl)
    follow_keeps i core (Last ibank) after next h k = h
    follow_keeps i core (Item-refused f) after next h k = h

    from_keeps : (n : ℕ) (c : LabelCounts) (due : Due) (i : ℕ) (core : List ℕ) → InPlace x (Program c due) core
        → P core (program_from n x c due block i core).core
    unfolding program_from
    from_keeps zero c due i core w = same core
    from_keeps (suc n) c due i core w = by-test (closes block i)
        (λ q. rw q (same core))
        (λ q. rw q
        (follow_keeps i core (item_step x c due block i core).item (item_step x c due block i core).core _ (item c due i core w)
        (λ d t p e. from_keeps n d t p (item_step x c due block i core).core
        (item_in_place x block c due i core d t p e (open_place x block i q) w))))

    program_keeps : (c : LabelCounts) (due : Due) (core : List ℕ) → InPlace x (Program c due) core
        → P core (program_step x c due block core).core
    unfolding program_step
    program_keeps c due core w = from_keeps last_word c due 1 core w

  pub program-length : (c : LabelCounts) (due : Due) (core : List ℕ) → InPlace x (Program c due) core
      → length (program_step x c due block core).core ≡ length core
  program-length = program_keeps (λ (a b : List ℕ). length b ≡ length a) (λ core. refl) (λ a b c h k. k ∙ h) (item_length x block)

  -- no word outside the area changes
  pub program-area : (j : ℕ) → Beside j x.area.at.0 x.area.size → (c : LabelCounts) (due : Due) (core : List ℕ)
      → InPlace x (Program c due) core
      → get_or (program_step x c due block core).core j 0 ≡ get_or core j 0
  program-area j o = program_keeps (λ (a b : List ℕ). get_or b j 0 ≡ get_or a j 0) (λ core. refl) (λ a b c h k. k ∙ h)
      (λ c due i core w. item_cases x block i (λ (f : List ℕ → ItemOutcome). get_or (f core).core j 0 ≡ get_or core j 0) (λ it. refl) c
      (λ same least ibank section room. group_area (assignments x c) section block i core room w.inside j o) due w.tables
      w.stage)

  -- what is stored is words below 2^36, whatever the core held
  pub program_words_lem : every is_word block ≡ true → (c : LabelCounts) (due : Due) (core : List ℕ) → InPlace x (Program c due) core
      → StoredWords core (program_step x c due block core).core
  program_words_lem words = program_keeps StoredWords stored-none stored-then
      (λ c due i core w. item_cases x block i (λ (f : List ℕ → ItemOutcome). StoredWords core (f core).core)
      (λ it. stored-none core) c
      (λ same least ibank section room. group_words_lem (assignments x c) section block i core room w.inside words) due w.tables
      w.stage)

-- ---- two cores that a load could have
module _ (x : Load) (block : List ℕ) where
  item_same : (c : LabelCounts) (due : Due) (i : ℕ) (core core' : List ℕ) → InPlace x (Program c due) core
      → (item_step x c due block i core).item ≡ (item_step x c due block i core').item
  item_same c due i core core' w =
      item_cases x block i (λ (f : List ℕ → ItemOutcome). (f core).item ≡ (f core').item) (λ it. refl) c
      (λ same least ibank section room. ap (after_group c same least ibank)
      (group_same (assignments x c) section block i room core core')) due w.tables w.stage

  -- what each item keeps of two cores, the block keeps; and it answers the same of both
  module _ (P : List ℕ → List ℕ → Type 0)
      (item : (c : LabelCounts) (due : Due) (i : ℕ) (core core' : List ℕ) → InPlace x (Program c due) core
      → InPlace x (Program c due) core' → P core core'
      → P (item_step x c due block i core).core (item_step x c due block i core').core) where
    abbrev Same : StepOutcome → StepOutcome → Type 0
    Same o o' = (o.step ≡ o'.step) × P o.core o'.core

    follow_both : (i : ℕ) (it it' : Item) (core core' : List ℕ) (next : LabelCounts → Due → ℕ → List ℕ → StepOutcome) → it ≡ it'
        → P core core'
        → ((d : LabelCounts) (t : Due) (p : ℕ) → it ≡ Go d t p → Same (next d t p core) (next d t p core'))
        → Same (followed i it core next) (followed i it' core' next)
    follow_both i (Go d t p) it' core core' next e h k = rw (← e) (k d t p refl)
    follow_both i (Last ibank) it' core core' next e h k = rw (← e) (refl, h)
    follow_both i (Item-refused f) it' core core' next e h k = rw (← e) (refl, h)

    from_both : (n : ℕ) (c : LabelCounts) (due : Due) (i : ℕ) (core core' : List ℕ) → InPlace x (Program c due) core
        → InPlace x (Program c due) core' → P core core'
        → Same (program_from n x c due block i core) (program_from n x c due block i core')
    unfolding program_from
    from_both zero c due i core core' w w' h = (refl, h)
    from_both (suc n) c due i core core' w w' h = by-test (closes block i)
        (λ q. rw q (refl, h))
        (λ q. let l = open_place x block i q in
        let e = item_same c due i core core' w in
        rw q
        (follow_both i (item_step x c due block i core).item (item_step x c due block i core').item
        (item_step x c due block i core).core (item_step x c due block i core').core _
        e (item c due i core core' w w' h)
        (λ d t p g. from_both n d t p (item_step x c due block i core).core (item_step x c due block i core').core
        (item_in_place x block c due i core d t p g l w) (item_in_place x block c due i core' d t p (sym e ∙ g) l w')
        (item c due i core core' w w' h))))

    program_both : (c : LabelCounts) (due : Due) (core core' : List ℕ) → InPlace x (Program c due) core
        → InPlace x (Program c due) core' → P core core'
        → Same (program_step x c due block core) (program_step x c due block core')
    unfolding program_step
    program_both c due core core' w w' h = from_both last_word c due 1 core core' w w' h

  module _ (c : LabelCounts) (due : Due) (core core' : List ℕ) (w : InPlace x (Program c due) core)
      (w' : InPlace x (Program c due) core') where
    -- the answer does not hang on the core
    pub program-same : (program_step x c due block core).step ≡ (program_step x c due block core').step
    program-same = (program_both (λ (a b : List ℕ). Unit {0}) (λ d t i a b v v' h. tt) c due core core' w w' tt).0

    -- and the words of the area afterwards hang on those before alone
    pub program_alike : Alike x.area core core'
        → Alike x.area (program_step x c due block core).core (program_step x c due block core').core
    program_alike h =
        (program_both (Alike x.area)
        (λ d t i a b v v' k. item_cases x block i (λ (f : List ℕ → ItemOutcome). Alike x.area (f a).core (f b).core)
        (λ it. k) d
        (λ same least ibank section room. group_alike (assignments x d) section block i room a b v.inside v'.inside k) t
        v.tables v.stage)
        c due core core' w w' h).1
