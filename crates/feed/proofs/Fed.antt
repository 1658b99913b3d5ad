-- Feed: the desk that it leaves is sound, the core keeps its length, and its answer is small; for any numbers, block, desk and
-- core.
use Prim.Native.Nat.{ℕ, ◌≤◌, ◌<◌, ◌^◌}
use mathlib.Core.Path.{◌≡◌, refl, ap, ◌∙◌}
use mathlib.Core.Bool.{true, false}
use mathlib.Core.List.{List}
use native.Mathlib.Omega.{arith}
use lib.ListN.{length, get_or}
use Rattle.word.specs.Limits.{words_in_block, place_count, core_most}
use Rattle.word.specs.Lists.{every}
use Rattle.word.specs.Fault.{fault, half_number, Verdict, pass}
use Rattle.word.specs.Sorts.{absolute_of}
use Rattle.word.specs.declared.Area.{Area}
use Rattle.word.specs.declared.Fault.{Fault}
use Rattle.word.specs.declared.Half.TheVariants.{Left, Right}
use Rattle.word.specs.declared.Half.{Half}
use Rattle.word.specs.declared.Absolute.{Absolute}
use Rattle.word.specs.Word.{is_word}
use Rattle.word.proofs.Cases.{when}
use Rattle.word.proofs.Stretch.{length-cleared}
use Rattle.word.proofs.Word.{part_below}
use Rattle.block.specs.declared.Record.{Record}
use Rattle.block.specs.Records.{checksum_place}
use Rattle.block.specs.Checksum.{checksum}
use Rattle.std.specs.Prelude.{Err, Ok, Option, Some, None}
use Rattle.block.specs.Block.{verdict}
use Rattle.block.proofs.OnePass.{whole_long, whole_words, seal-cases}
use Rattle.stage.specs.declared.Stage.{Stage}
use Rattle.stage.specs.declared.Stage.TheVariants.{Complete, Broken}
use Rattle.stage.specs.Ranges.{stage_fits}
use Rattle.program.specs.Start.{start_of}
use Rattle.stage.specs.Step.{StepResult, step_more, step_done}
use Rattle.stage.specs.declared.Step.TheVariants.{More, Done}
use Rattle.stage.specs.Record.{record_due, is_over}
use Rattle.layout.specs.Layout.{core_length, holder_in, place_in, stage_in, holds}
use Rattle.layout.proofs.Places.{holds-inside, holds_holder}
use Rattle.lists.proofs.Reading.{io-length}
use Rattle.desk.specs.Sound.{sound, given_in, lists_held}
use Rattle.desk.proofs.Facts.{core_small}
use Rattle.desk.proofs.Replaced.{stage-written-sound}
use Rattle.calls.specs.declared.Answer.TheVariants.{Refused, More, Done}
use Rattle.calls.specs.Answer.{SmallFault, Small}
use Rattle.calls.specs.Outcome.{Outcome, refused}
use Rattle.calls.proofs.Entry.{entered-cases}
use Rattle.calls.proofs.Packed.{small_fault}
use Rattle.feed.specs.Block.{block_step}
use Rattle.lists.specs.Load.{Load}
use Rattle.sections.specs.Waits.{Waits}
use Rattle.sections.specs.Program.{StepMeets}
use Rattle.feed.specs.Feed.{load_in, wiped, staged, settled_of, taken_of, checked_of, held_of, feed_of}
use Rattle.feed.proofs.Laws.{OfBlock}
use Rattle.feed.proofs.Blocked.{block_laws}
use Rattle.feed.proofs.Wiped.{settled_same}
use Rattle.feed.proofs.Held.{held-inside, held_fit, fit_waiting}

-- a place that a room holds is one, and is held
pub holds-place : (d : List ℕ) (r p : ℕ) → holds d r p ≡ true → (p < place_count) × (holder_in d p ≡ 0 → ⊥)
holds-place d r p q = (holds-inside d r p q, λ z. omega (arith, holds_holder d r p q))

-- a block passes, whole and of words; or it meets 11 or 12
pub verdict-cases : (r : Record) (block : List ℕ) (P : Verdict → Type 0)
    → (length block ≡ words_in_block → every is_word block ≡ true → P pass)
    → P (Err (fault 11)) → P (Err (fault 12)) → P (verdict r block)
unfolding verdict
verdict-cases r block P pass eleven twelve =
    seal-cases checksum (checksum_place r) block P (λ w a. pass (whole_long block w) (whole_words block w)) eleven twelve

-- so one that passes is whole, and of words
pub verdict_pass : (r : Record) (block : List ℕ) → verdict r block ≡ pass → (length block ≡ words_in_block)
    × (every is_word block ≡ true)
verdict_pass r block = verdict-cases r block (λ v. v ≡ pass → (length block ≡ words_in_block) × (every is_word block ≡ true))
    (λ l w q. (l, w))
    (λ q. let z : ◌≡◌ {A = ℕ} 0 1 = cc in absurd (omega arith))
    (λ q. let z : ◌≡◌ {A = ℕ} 0 1 = cc in absurd (omega arith))

-- ---- every outcome of feed is a refusal that changes nothing, or what a block leads to at a held place
module _ (d core block : List ℕ) (r p : ℕ) (P : Outcome → Type 0) (none : (n : ℕ) → 1 ≤ n → n ≤ 12 → P (refused n d core))
    (takes : sound d ≡ true → length core ≡ core_length d → holds d r p ≡ true → is_over (stage_in (place_in d p)) ≡ false
    → length block ≡ words_in_block
    → every is_word block ≡ true → P (taken_of d core p (load_in (place_in d p)) (stage_in (place_in d p)) block)) where
  pub feed_outcomes : P (feed_of d core r p block)
  unfolding feed_of held_of checked_of
  feed_outcomes =
      entered-cases d (length core) r core _ P (λ m l h. none m l (omega arith))
      (λ k. when P (holds d r p)
      (λ h. when P (is_over (stage_in (place_in d p)))
      (λ o. none 10 (omega arith) (omega arith))
      (λ o. verdict-cases (record_due (stage_in (place_in d p))) block
      (λ v. P (checked_of d core (taken_of d core p (load_in (place_in d p)) (stage_in (place_in d p)) block) v))
      (λ l w. takes k.desk k.core h o l w)
      (none 11 (omega arith) (omega arith))
      (none 12 (omega arith) (omega arith))))
      (λ h. none 9 (omega arith) (omega arith)))

-- a stage in range is written
written-sound : (d : List ℕ) (p : ℕ) (t : Stage) → sound d ≡ true → p < place_count
    → stage_fits (load_in (place_in d p)).area (load_in (place_in d p)).tables (length (load_in (place_in d p)).ios) t ≡ true
    → sound (staged d p t) ≡ true
unfolding staged load_in
written-sound d p t s h f = stage-written-sound d p t s h (rw (io-length (given_in d p) (lists_held d p)) at f)

-- what a step leads to, arm by arm
settled_cases : (d core : List ℕ) (p : ℕ) (area : Area) (x : StepResult) (after : List ℕ) (P : Outcome → Type 0)
    → ((t : Stage) → x ≡ step_more t → P (record { answer = More; desk = staged d p t; core = after }))
    → ((a : Absolute) → x ≡ step_done a → P (record { answer = Done a; desk = staged d p Complete; core = after }))
    → ((f : Fault) → x ≡ Err f → P (record { answer = Refused f; desk = staged d p Broken; core = wiped area core }))
    → P (settled_of d core p area x after)
unfolding settled_of
settled_cases d core p area (Ok (More t)) after P m e b = m t refl
settled_cases d core p area (Ok (Done a)) after P m e b = e a refl
settled_cases d core p area (Err f) after P m e b = b f refl

-- a start is an address in a core, or a little past it
start_small : (area : Area) (block : List ℕ) → area.at.0 ≤ core_most → (absolute_of area (start_of block)).0 < 2 ^ 32
start_small area block h = omega (arith, part_below 0 16 (get_or block 1 0))

-- and so does a fault of a block
half_most : (s : Option Half) → half_number s ≤ 2
half_most None = omega arith
half_most (Some Left) = omega arith
half_most (Some Right) = omega arith

of_block_small : (block : List ℕ) (f : Fault) → OfBlock block f → SmallFault f
of_block_small block f o = (omega (arith, o.most), omega (arith, half_most f.half, o.place.inside))

module _ (d core block : List ℕ) (r p : ℕ) where
  abbrev load : Load
  load = load_in (place_in d p)

  abbrev due : Stage
  due = stage_in (place_in d p)

  module _ (P : Outcome → Type 0) (none : (n : ℕ) → 1 ≤ n → n ≤ 12 → P (refused n d core))
      (more : (t : Stage) → sound d ≡ true → length core ≡ core_length d → holds d r p ≡ true
      → (block_step load due block core).step ≡ step_more t
      → P (record { answer = More; desk = staged d p t; core = (block_step load due block core).core }))
      (done : (a : Absolute) → sound d ≡ true → length core ≡ core_length d → holds d r p ≡ true
      → (block_step load due block core).step ≡ step_done a
      → P (record { answer = Done a; desk = staged d p Complete; core = (block_step load due block core).core }))
      (bad : (f : Fault) → sound d ≡ true → length core ≡ core_length d → holds d r p ≡ true
      → (block_step load due block core).step ≡ Err f
      → P (record { answer = Refused f; desk = staged d p Broken; core = wiped load.area core })) where
    pub feed-cases : P (feed_of d core r p block)
    unfolding taken_of
    feed-cases = feed_outcomes d core block r p P none
        (λ s e h o l w. settled_cases d core p load.area (block_step load due block core).step
        (block_step load due block core).core P
        (λ t q. more t s e h q) (λ a q. done a s e h q) (λ f q. bad f s e h q))

  -- the desk stays sound
  pub feed-sound : sound d ≡ true → sound (feed_of d core r p block).desk ≡ true
  feed-sound s = feed-cases (λ (o : Outcome). sound o.desk ≡ true) (λ n k h. s)
      (λ t _ e h q. let k = holds-place d r p h in written-sound d p t s k.0
      (block_laws.fits load due t block core (held_fit d s p k.0 k.1) q))
      (λ a _ e h q. written-sound d p Complete s (holds-place d r p h).0 (unfold stage_fits in refl))
      (λ f _ e h q. written-sound d p Broken s (holds-place d r p h).0 (unfold stage_fits in refl))

  -- the core keeps its length
  pub feed-long : length (feed_of d core r p block).core ≡ length core
  feed-long = feed-cases (λ (o : Outcome). length o.core ≡ length core) (λ n k h. refl)
      (λ t s e h q. let k = holds-place d r p h in block_laws.long load due block core (held_fit d s p k.0 k.1)
      (rw e (held-inside d s p k.0 k.1)))
      (λ a s e h q. let k = holds-place d r p h in block_laws.long load due block core (held_fit d s p k.0 k.1)
      (rw e (held-inside d s p k.0 k.1)))
      (λ f s e h q. let k = holds-place d r p h in length-cleared core load.area.at.0 load.area.size
      (rw e (held-inside d s p k.0 k.1)))

  -- the answer fits into one number
  pub feed_small : Small (feed_of d core r p block).answer
  feed_small = feed-cases (λ (o : Outcome). Small o.answer) (λ n k h. small_fault n (omega arith))
      (λ t s e h q. tt)
      (λ a s e h q. let k = holds-place d r p h in
      rw (block_laws.starts load due block core a q)
      (start_small load.area block (omega (arith, held-inside d s p k.0 k.1, core_small d s))))
      (λ f s e h q. of_block_small block f (block_laws.faults load due block core f q))

-- a block that is taken, from what its step told and left
pub taken_met : (d core block : List ℕ) (p : ℕ) (x : Load) (s : Stage) → Waits x s block core → (r : StepResult) (after : List ℕ)
    → StepMeets (block_step x s block core) r after → settled_of d after p x.area r after ≡ taken_of d core p x s block
unfolding taken_of
taken_met d core block p x s w r after m =
    let f = fit_waiting x s block core w in
    settled_same d core after p x.area r w.inside (ap length m.left ∙ block_laws.long x s block core f w.inside)
    (λ j b. ap (λ (l : List ℕ). get_or l j 0) m.left ∙ block_laws.beside x s block core f w.inside j b)
    ∙ ap (λ (q : StepResult). settled_of d core p x.area q after) m.told
    ∙ ap (settled_of d core p x.area (block_step x s block core).step) m.left
