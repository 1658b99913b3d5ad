-- No call reads a core word: of two cores of one length it tells and leaves the same on the desk.
use Prim.Native.Nat.{ℕ, ◌+◌, ◌≤◌}
use mathlib.Core.Path.{◌≡◌, refl}
use mathlib.Core.Bool.{true}
use mathlib.Core.List.{List}
use lib.ListN.{length}
use lib.Dec.{eqb}
use borrow.Author.Tests.{eqb-true}
use Rattle.word.specs.declared.Area.{Area}
use Rattle.std.specs.Prelude.{Ok, Err}
use Rattle.word.specs.Fault.{Verdict}
use Rattle.block.specs.Block.{verdict}
use Rattle.rooms.specs.Rooms.{place_refusal}
use Rattle.lists.specs.Obey.{lists_obey}
use Rattle.lists.specs.Load.{Load}
use Rattle.stage.specs.declared.Stage.{Stage}
use Rattle.stage.specs.Step.{StepResult}
use Rattle.stage.specs.declared.Step.TheVariants.{More, Done}
use Rattle.stage.specs.Record.{record_due, is_over}
use Rattle.layout.specs.Layout.{place_in, stage_in, holders, holds}
use Rattle.calls.specs.Outcome.{Outcome}
use Rattle.calls.specs.Entry.{entry_refusal, entered, Entered}
use Rattle.calls.specs.Open.{area_fits, opened, grant_of, open_of}
use Rattle.calls.proofs.Entry.{entry_shows}
use Rattle.feed.specs.Block.{block_step}
use Rattle.feed.specs.Feed.{load_in, settled_of, taken_of, checked_of, held_of, feed_of}
use Rattle.feed.proofs.Blocked.{block_laws}
use Rattle.feed.proofs.Fed.{holds-place}
use Rattle.feed.proofs.Held.{held-inside, held_fit}
use Rattle.demands.specs.History.{answer_to, call}
use Rattle.demands.specs.History.Call.{Make, Open, Feed, Release}
use Rattle.demands.specs.Demands.{Demand1Blind}
use Rattle.demands.proofs.Reach.{both_when}

-- the same answer and the same desk
abbrev Agree : Outcome → Outcome → Type 0
Agree o q = (o.answer ≡ q.answer) × (o.desk ≡ q.desk)

-- ---- the tests that open and feed begin with
module _ (d : List ℕ) (core other : List ℕ) (same : length other ≡ length core) (r : ℕ) where
  entered_agree : (x y : Outcome) → (Entered d (length core) r → Agree x y)
      → Agree (entered d (length other) r other x) (entered d (length core) r core y)
  unfolding entered
  entered_agree x y h =
      rw same
      (both_when Agree (eqb (entry_refusal d (length core) r) 0) (eqb (entry_refusal d (length core) r) 0) refl
      (λ q. h (entry_shows d (length core) r (entry_refusal d (length core) r) refl (eqb-true (entry_refusal d (length core) r) 0 q)))
      (λ q. (refl, refl)))

  open_agree : (a : Area) (ios tables : List ℕ) → Agree (open_of d other r a ios tables) (open_of d core r a ios tables)
  unfolding open_of grant_of opened
  open_agree a ios tables =
      entered_agree _ _
      (λ k. both_when Agree (eqb (place_refusal r (holders d)) 0) (eqb (place_refusal r (holders d)) 0) refl
      (λ q. both_when Agree (area_fits d r a) (area_fits d r a) refl
      (λ f. both_when Agree (lists_obey a ios tables) (lists_obey a ios tables) refl (λ l. (refl, refl)) (λ l. (refl, refl)))
      (λ f. (refl, refl)))
      (λ q. (refl, refl)))

  -- ---- feed: what is due decides by the block alone
  module _ (p : ℕ) (block : List ℕ) where
    settled_agree : (area : Area) (g : StepResult) (k m : List ℕ) → Agree (settled_of d other p area g k) (settled_of d core p area g m)
    unfolding settled_of
    settled_agree area (Ok (More t)) k m = (refl, refl)
    settled_agree area (Ok (Done a)) k m = (refl, refl)
    settled_agree area (Err f) k m = (refl, refl)

    module _ (e : Entered d (length core) r) (h : holds d r p ≡ true) where
      abbrev x : Load
      x = load_in (place_in d p)

      abbrev due : Stage
      due = stage_in (place_in d p)

      inside : x.area.at.0 + x.area.size ≤ length core
      inside = let k = holds-place d r p h in rw e.core (held-inside d e.desk p k.0 k.1)

      same_step : (block_step x due block other).step ≡ (block_step x due block core).step
      same_step =
          let k = holds-place d r p h in
          block_laws.same_step x due block other core (held_fit d e.desk p k.0 k.1) (rw same inside) inside

      checked_agree : (v : Verdict)
          → Agree (checked_of d other (taken_of d other p x due block) v) (checked_of d core (taken_of d core p x due block) v)
      unfolding checked_of taken_of
      checked_agree (Ok t) = rw same_step (settled_agree x.area (block_step x due block core).step _ _)
      checked_agree (Err f) = (refl, refl)

      held_agree : Agree (held_of d other p block) (held_of d core p block)
      unfolding held_of
      held_agree =
          both_when Agree (is_over due) (is_over due) refl (λ o. (refl, refl)) (λ o. checked_agree (verdict (record_due due) block))

    feed_agree : Agree (feed_of d other r p block) (feed_of d core r p block)
    unfolding feed_of
    feed_agree =
        entered_agree _ _
        (λ e. both_when Agree (holds d r p) (holds d r p) refl (λ h. held_agree e h) (λ h. (refl, refl)))

pub blind : Demand1Blind
unfolding answer_to call
blind (Make n m) s other e = (refl, refl)
blind (Open r a ios tables) s other e = open_agree s.desk s.core other e r a ios tables
blind (Feed r p block) s other e = feed_agree s.desk s.core other e r p block
blind (Release n r p) s other e = (refl, refl)
