-- A load's life, seen from what happens: where it is answered `done`, it took its blocks as it would by itself.
use Prim.Native.Nat.{ℕ, ◌+◌, ◌<◌}
use mathlib.Core.Path.{◌≡◌, refl, sym, ap, subst, ◌∙◌}
use mathlib.Core.Bool.{true, false, ◌&&◌}
use mathlib.Core.List.{List, [], ◌∷◌}
use mathlib.Core.Logic.{⊎_elim}
use native.Mathlib.Omega.{arith}
use lib.ListN.{length}
use lib.Dec.{eqb}
use borrow.Author.Tests.{eq-eqb}
use Rattle.word.specs.Limits.{place_count}
use Rattle.word.specs.Lists.{every, range}
use Rattle.word.specs.declared.Absolute.{Absolute}
use Rattle.stage.specs.declared.Stage.{Stage}
use Rattle.stage.specs.declared.Stage.TheVariants.{Complete, Broken}
use Rattle.std.specs.Prelude.{Ok, Err}
use Rattle.stage.specs.Step.{StepResult, step_more, step_done}
use Rattle.stage.specs.declared.Step.TheVariants.{More, Done}
use Rattle.stage.specs.Record.{is_over}
use Rattle.lists.specs.Load.{Load}
use Rattle.layout.specs.declared.Place.{Place}
use Rattle.layout.specs.Layout.{place_in, holder_of, own_of, stage_in}
use Rattle.calls.specs.declared.Answer.TheVariants.{More, Done}
use Rattle.calls.specs.Outcome.{Outcome}
use Rattle.feed.specs.Block.{block_step}
use Rattle.feed.specs.Feed.{load_in, staged, settled_of, taken_of, feed_of}
use Rattle.feed.proofs.Blocked.{block_laws}
use Rattle.group.proofs.Acts.{Alike}
use Rattle.feed.proofs.Laws.{FitToFeed, Holds}
use Rattle.demands.specs.Orders.{run}
use Rattle.demands.specs.History.{State, answer_to, call, Event, event, told, taken_in, taken, starts_in, starts, is_gone}
use Rattle.demands.specs.History.{harmless}
use Rattle.demands.specs.History.Call.{Feed}
use Rattle.demands.specs.History.Event.{Here}
use Rattle.demands.specs.Taking.{Takes}
use Rattle.demands.proofs.Prepared.{Prepared}
use Rattle.demands.proofs.Held.{area_of, held-inside, held_fit, held_place}
use Rattle.demands.proofs.Views.{view, words_held, range_inside, alike_range, staged_own, staged-stage, staged-load}
use Rattle.demands.proofs.Reach.{left_by}
use Rattle.demands.proofs.Ready.{event_gone, event_ready}
use Rattle.demands.proofs.Feeds.{cond_same, place_of, all_head, all_tail, sort_event, Quiet, quiet}

-- ---- a load that is answered `done`: what it would take by itself, from waiting for g with the core as it is
pub record Ends (x : Load) (g : Stage) (core : List ℕ) (file : List (List ℕ)) (s : State) : Type 0 where
  pub left : List ℕ
  pub takes : Takes x g core file Complete left
  pub area : range s.core x.area.at.0 x.area.size ≡ range left x.area.at.0 x.area.size

module _ (r p : ℕ) (x : Load) (a : Absolute) (others : List Absolute) where
  abbrev Life : List Event → Type 0
  Life es =
      (s : State) (core : List ℕ) (g : Stage) → Prepared s → holder_of (place_in s.desk p) ≡ r + 1
      → load_in (place_in s.desk p) ≡ x → stage_in (place_in s.desk p) ≡ g → Holds x core → Alike x.area s.core core
      → every (harmless r p x.area) es ≡ true → is_gone r p (told es s) ≡ false → starts r p (told es s) ≡ a ∷ others
      → Ends x g core (taken r p (told es s)) (run event es s)

  -- the block is taken
  module _ (es : List Event) (next : Life es) (s : State) (core : List ℕ) (g : Stage) (k : Prepared s)
      (h : holder_of (place_in s.desk p) ≡ r + 1)
      (lx : load_in (place_in s.desk p) ≡ x) (sg : stage_in (place_in s.desk p) ≡ g) (hc : Holds x core)
      (al : Alike x.area s.core core)
      (block : List ℕ) (over : is_over g ≡ false) (safe : every (harmless r p x.area) es ≡ true)
      (fed : feed_of s.desk s.core r p block ≡ taken_of s.desk s.core p (load_in (place_in s.desk p))
      (stage_in (place_in s.desk p)) block) where
    abbrev held : holder_of (place_in s.desk p) ≡ 0 → ⊥
    held z = omega (arith, h)

    in_p : p < place_count
    in_p = held_place s.desk k.desk p held

    fit : FitToFeed x g
    fit = rw (lx, sg) at (held_fit s.desk k.desk p held)

    area_is : area_of (place_in s.desk p) ≡ x.area
    unfolding load_in
    area_is = ap (λ (y : Load). y.area) lx

    inside : Holds x s.core
    inside = rw (← k.core, area_is) at (held-inside s.desk k.desk p held)

    abbrev after : List ℕ
    after = (block_step x g block s.core).core

    abbrev alone : List ℕ
    alone = (block_step x g block core).core

    after-long : length after ≡ length s.core
    after-long = block_laws.long x g block s.core fit inside

    alone-long : length alone ≡ length core
    alone-long = block_laws.long x g block core fit hc

    after_alike : Alike x.area after alone
    after_alike = block_laws.same_words x g block s.core core fit inside hc al

    alone-holds : Holds x alone
    alone-holds = rw alone-long hc

    words_alike : range after x.area.at.0 x.area.size ≡ range alone x.area.at.0 x.area.size
    words_alike = range_inside after alone _ _ (rw after-long inside) alone-holds after_alike

    out : feed_of s.desk s.core r p block
        ≡ settled_of s.desk s.core p x.area (block_step x g block s.core).step after
    unfolding taken_of
    out = fed ∙ rw (lx, sg)

    -- with what the feed answered and left
    abbrev Ending : Outcome → Type 0
    Ending o =
        is_gone r p (told es (left_by o)) ≡ false
        → starts_in r p (Feed r p block) o.answer (starts r p (told es (left_by o))) ≡ a ∷ others
        → Ends x g core (taken_in r p (Feed r p block) o.answer (taken r p (told es (left_by o))))
        (run event es (left_by o))

    -- the place with another stage, and any core
    module _ (t : Stage) (m : List ℕ) (ready : Prepared (record { desk = staged s.desk p t; core = m })) where
      abbrev n : State
      n = record { desk = staged s.desk p t; core = m }

      holder_n : holder_of (place_in (staged s.desk p t) p) ≡ r + 1
      unfolding own_of
      holder_n = ap (λ (o : Place). o.holder) (staged_own s.desk k.desk p in_p t) ∙ h

      area-n : area_of (place_in (staged s.desk p t) p) ≡ x.area
      area-n = ap (λ (o : Place). o.given.area) (staged_own s.desk k.desk p in_p t) ∙ area_is

      quiet_n : is_over t ≡ true → is_gone r p (told es n) ≡ false → Quiet r p es n
      quiet_n o q = quiet r p x.area es n ready holder_n area-n (rw (staged-stage s.desk k.desk p in_p t) o) safe q

      next_n : Holds x alone → Alike x.area m alone → is_gone r p (told es n) ≡ false → starts r p (told es n) ≡ a ∷ others
          → Ends x t alone (taken r p (told es n)) (run event es n)
      next_n h z =
          next n alone t ready holder_n (staged-load s.desk k.desk p in_p t ∙ lx)
          (staged-stage s.desk k.desk p in_p t) h z safe

      words_n : Quiet r p es n
          → range (run event es n).core x.area.at.0 x.area.size ≡ range m x.area.at.0 x.area.size
      words_n q = rw area-n at (words_held p n (run event es n) q.same (λ z. omega (arith, holder_n)))

    abbrev Says : StepResult → Type 0
    Says g' = (block_step x g block s.core).step ≡ g'

    alone_says : (g' : StepResult) → Says g' → (block_step x g block core).step ≡ g'
    alone_says g' e = block_laws.same_step x g block core s.core fit hc inside ∙ e

    more_ends : (t : Stage) (m : State) → Says (step_more t) → Ends x t alone (taken r p (told es m)) (run event es m)
        → Ends x g core (taken_in r p (Feed r p block) More (taken r p (told es m))) (run event es m)
    unfolding Takes
    more_ends t m e y =
        rw (eq-eqb r r refl, eq-eqb p p refl) (record {
          left = y.left;
          takes = (over, rw (alone_says (step_more t) e) y.takes);
          area = y.area;
        })

    done_ends : (b : Absolute) (m : State) → Says (step_done b) → taken r p (told es m) ≡ []
        → range (run event es m).core x.area.at.0 x.area.size ≡ range after x.area.at.0 x.area.size
        → Ends x g core (taken_in r p (Feed r p block) (Done b) (taken r p (told es m))) (run event es m)
    unfolding Takes
    done_ends b m e q w =
        rw (eq-eqb r r refl, eq-eqb p p refl, q) (record {
          left = alone;
          takes = (over, rw (alone_says (step_done b) e) (refl, refl));
          area = w ∙ words_alike;
        })

    ending : (g' : StepResult) → Says g' → Prepared (left_by (settled_of s.desk s.core p x.area g' after))
        → Ending (settled_of s.desk s.core p x.area g' after)
    unfolding settled_of
    ending (Ok (More t)) e y q z =
        more_ends t _ e (next_n t after y alone-holds after_alike q (sym (cond_same (eqb r r && eqb p p) _) ∙ z))
    ending (Ok (Done b)) e y q z =
        let n = quiet_n Complete after y (unfold is_over in refl) q in
        done_ends b _ e n.none (words_n Complete after y n)
    ending (Err f) e y q z =
        let n = quiet_n Broken _ y (unfold is_over in refl) q in
        absurd (omega (arith, ap length (sym n.no_start ∙ sym (cond_same (eqb r r && eqb p p) _) ∙ z)))

    -- the feed leaves the state ready
    ready_after : Prepared (call (Feed r p block) s)
    unfolding is_gone event
    ready_after = event_ready r p (Here (Feed r p block)) s [] k refl

    fed-ends : is_gone r p (told (Here (Feed r p block) ∷ es) s) ≡ false → starts r p (told (Here (Feed r p block) ∷ es) s) ≡ a
        ∷ others
        → Ends x g core (taken r p (told (Here (Feed r p block) ∷ es) s)) (run event (Here (Feed r p block) ∷ es) s)
    unfolding told is_gone starts taken run event call answer_to
    fed-ends = subst Ending (sym out) (ending _ refl (subst (λ (o : Outcome). Prepared (left_by o)) out ready_after))

  -- the area's words are as they were where the view is
  kept_alike : (s t : State) (core : List ℕ) → view p t ≡ view p s → holder_of (place_in s.desk p) ≡ r + 1
      → load_in (place_in s.desk p) ≡ x → Alike x.area s.core core → Alike x.area t.core core
  unfolding load_in
  kept_alike s t core v h lx al j b e =
      let i : area_of (place_in s.desk p) ≡ x.area = ap (λ (y : Load). y.area) lx in
      alike_range t.core s.core _ _ (rw i at (words_held p s t v (λ z. omega (arith, h)))) j b e ∙ al j b e

  abbrev EndsWith : List Event → State → List ℕ → Stage → Event → Type 0
  EndsWith es s core g e =
      is_gone r p (told (e ∷ es) s) ≡ false → starts r p (told (e ∷ es) s) ≡ a ∷ others
      → Ends x g core (taken r p (told (e ∷ es) s)) (run event (e ∷ es) s)

  pub lives : (es : List Event) → Life es
  unfolding told run load_in starts
  lives [] s core g k h lx sg hc al f q z = absurd (omega (arith, ap length z))
  lives (e ∷ es) s core g k h lx sg hc al f q z =
      let tail = all_tail r p x.area e es f in
      ⊎_elim
      (λ i. let o = place_of p s (event e s) i.same in
      rw (i.takes_none _) (lives es (event e s) core g (event_ready r p e s _ k q) (rw o h) (rw o lx) (rw o sg) hc
      (kept_alike s (event e s) core i.same h lx al) tail (event_gone r p e s _ q) (sym (i.starts_none _) ∙ z)))
      (λ w. subst (EndsWith es s core g) (sym w.1)
      (fed-ends es (lives es) s core g k h lx sg hc al w.0 (rw sg at w.2) tail w.3) q z)
      (sort_event r p x.area s k.desk h (ap (λ (y : Load). y.area) lx) e _ (all_head r p x.area e es f) q)
