-- The start, whatever is stored and whatever core is lent: it is the file's own, moved by the area's address, and is answered once.
use Prim.Native.Nat.{ℕ, suc, ◌+◌, ◌-◌, ◌<◌}
use mathlib.Core.Path.{◌≡◌, refl, sym, ap, subst, ◌∙◌}
use mathlib.Core.Bool.{true, false, ◌&&◌, true≢false}
use mathlib.Core.List.{List, [], ◌∷◌}
use mathlib.Core.Logic.{◌⊎◌, inl, inr, ⊎_elim}
use native.Mathlib.Omega.{arith}
use lib.ListN.{length}
use lib.Dec.{eqb}
use borrow.Author.Tests.{eq-eqb}
use Rattle.word.specs.Limits.{place_count}
use Rattle.word.specs.declared.Absolute.{Absolute}
use Rattle.word.specs.declared.Area.{Area}
use Rattle.lists.specs.Load.{Load}
use Rattle.stage.specs.declared.Stage.{Stage}
use Rattle.stage.specs.declared.Stage.TheVariants.{Complete, Broken}
use Rattle.std.specs.Prelude.{Ok, Err}
use Rattle.stage.specs.Step.{StepResult}
use Rattle.stage.specs.declared.Step.TheVariants.{More, Done}
use Rattle.stage.specs.Record.{is_over}
use Rattle.layout.specs.declared.Place.{Place}
use Rattle.layout.specs.Layout.{place_in, holder_of, own_of, stage_in}
use Rattle.desk.specs.Sound.{sound}
use Rattle.calls.specs.Outcome.{Outcome}
use Rattle.feed.specs.Block.{block_step}
use Rattle.feed.specs.Feed.{load_in, staged, settled_of, taken_of, feed_of}
use Rattle.feed.proofs.Blocked.{block_laws}
use Rattle.demands.specs.Image.{last_block, file_start}
use Rattle.demands.specs.History.{State, Call, answer_to, call, Event, lent, event, Told, told_by, told}
use Rattle.demands.specs.History.{taken_in, taken, starts_in, starts, gone_by, is_gone}
use Rattle.demands.specs.History.Call.{Feed}
use Rattle.demands.specs.History.Event.{Here, Elsewhere, OutsideStore}
use Rattle.demands.specs.Opening.{after_open}
use Rattle.demands.specs.Demands.{Demand2Start}
use Rattle.demands.proofs.Held.{area_of, held_place}
use Rattle.demands.proofs.Views.{staged-stage}
use Rattle.demands.proofs.Ready.{neither, event-sound, event_gone}
use Rattle.demands.proofs.Feeds.{place_of, cond_same, sort_call}
use Rattle.demands.proofs.Begun.{begun}
use Rattle.demands.proofs.Kept.{holder_of_lem, event_own}

-- what a feed of the load's own comes to whose block it takes, lent some core
abbrev takes : ℕ → List ℕ → List ℕ → State → Outcome
takes p block core s = taken_of s.desk core p (load_in (place_in s.desk p)) (stage_in (place_in s.desk p)) block

-- ---- an event leaves the load's place as it was, and no answer of it counts; or the load takes a block
pub record Still (r p : ℕ) (e : Event) (s : State) : Type 0 where
  pub place : place_in (event e s).desk p ≡ place_in s.desk p
  pub takes_none : (rest : List Told) → taken r p (told_by e s rest) ≡ taken r p rest
  pub starts_none : (rest : List Told) → starts r p (told_by e s rest) ≡ starts r p rest

pub record Took (r p : ℕ) (e : Event) (s : State) : Type 0 where
  pub block : List ℕ
  pub core : List ℕ
  pub waits : is_over (stage_in (place_in s.desk p)) ≡ false
  pub desk : (event e s).desk ≡ (takes p block core s).desk
  pub told_so : (rest : List Told) → told_by e s rest ≡ record { call = Feed r p block; answer = (takes p block core s).answer }
      ∷ rest

module _ (r p : ℕ) (s : State) (ok : sound s.desk ≡ true) (held : holder_of (place_in s.desk p) ≡ r + 1) where
  took : (c : Call) (core block : List ℕ) → c ≡ Feed r p block
      → feed_of s.desk core r p block ≡ takes p block core s
      → ((call c (lent core s)).desk ≡ (takes p block core s).desk) × (answer_to c (lent core s) ≡ (takes p block core s).answer)
  unfolding call answer_to
  took c core block e f = rw e (ap (λ (o : Outcome). o.desk) f, ap (λ (o : Outcome). o.answer) f)

  sort_any : (e : Event) (rest : List Told) → is_gone r p (told_by e s rest) ≡ false → Still r p e s ⊎ Took r p e s
  unfolding event taken starts is_gone
  sort_any (Here c) rest q =
      ⊎_elim
      (λ x. inl (record {
        place = place_of p s _
            x.same;
        takes_none = λ l. x.takes_none _;
        starts_none = λ l. x.starts_none _;
      }))
      (λ x. let k = took c s.core x.0 x.1 x.3 in
      inr (record {
        block = x.0;
        core = s.core;
        waits = x.2;
        desk = k.0;
        told_so = λ l. rw (k.1, x.1);
      }))
      (sort_call r p s ok held c (neither (gone_by r p c (answer_to c s)) (is_gone r p rest) q).0)
  sort_any (Elsewhere other c) rest q =
      let t = lent other s in
      ⊎_elim
      (λ x. inl (record {
        place = place_of p t _
            x.same;
        takes_none = λ l. x.takes_none _;
        starts_none = λ l. x.starts_none _;
      }))
      (λ x. let k = took c other x.0 x.1 x.3 in
      inr (record {
        block = x.0;
        core = other;
        waits = x.2;
        desk = k.0;
        told_so = λ l. rw (k.1, x.1);
      }))
      (sort_call r p t ok held c (neither (gone_by r p c (answer_to c t)) (is_gone r p rest) q).0)
  sort_any (OutsideStore j v) rest q = inl (record { place = refl; takes_none = λ l. refl; starts_none = λ l. refl })

-- ---- a load that is over
module _ (r p : ℕ) where
  over_none : (es : List Event) (s : State) → sound s.desk ≡ true → holder_of (place_in s.desk p) ≡ r + 1
      → is_over (stage_in (place_in s.desk p)) ≡ true → is_gone r p (told es s) ≡ false
      → (taken r p (told es s) ≡ []) × (starts r p (told es s) ≡ [])
  unfolding told
  over_none [] s ok h o q = (unfold taken in refl, unfold starts in refl)
  over_none (e ∷ es) s ok h o q =
      ⊎_elim
      (λ x. let n = over_none es (event e s) (event-sound e s ok) (rw x.place h) (rw x.place o) (event_gone r p e s _ q) in
      (x.takes_none _ ∙ n.0, x.starts_none _ ∙ n.1))
      (λ x. absurd (true≢false (sym o ∙ x.waits)))
      (sort_any r p s ok h e _ q)

last_later : (b : List ℕ) (file : List (List ℕ)) → 0 < length file → last_block (b ∷ file) ≡ last_block file
last_later b [] h = absurd (omega arith)
last_later b (f ∷ file) h =
    let e : suc (suc (length file)) - 1 ≡ suc (suc (length file) - 1) = omega arith in rw e

abbrev first_of : (d : Absolute) → List Absolute → Absolute
first_of d [] = d
first_of d (x ∷ xs) = x

abbrev rest_of : List Absolute → List Absolute
rest_of [] = []
rest_of (x ∷ xs) = xs

-- ---- a load that is answered `done`, by the blocks that it took
module _ (r p : ℕ) (area : Area) (a : Absolute) (others : List Absolute) where
  pub record Found (file : List (List ℕ)) : Type 0 where
    pub some : 0 < length file
    pub start : a ≡ file_start area file
    pub once : others ≡ []

  abbrev Finds : List Event → Type 0
  Finds es =
      (s : State) → sound s.desk ≡ true → holder_of (place_in s.desk p) ≡ r + 1 → area_of (place_in s.desk p) ≡ area
      → is_gone r p (told es s) ≡ false → starts r p (told es s) ≡ a ∷ others → Found (taken r p (told es s))

  -- it takes a block, and has rest before it
  module _ (es : List Event) (next : Finds es) (s t : State) (ok : sound s.desk ≡ true)
      (held : holder_of (place_in s.desk p) ≡ r + 1)
      (its : area_of (place_in s.desk p) ≡ area) (sound-t : sound t.desk ≡ true)
      (own : own_of (place_in t.desk p) ≡ own_of (place_in s.desk p)) (stays : is_gone r p (told es t) ≡ false)
      (core block : List ℕ) where
    abbrev x : Load
    x = load_in (place_in s.desk p)

    abbrev due : Stage
    due = stage_in (place_in s.desk p)

    in_p : p < place_count
    in_p = held_place s.desk ok p (λ z. omega (arith, held))

    holder_t : holder_of (place_in t.desk p) ≡ r + 1
    holder_t = holder_of_lem _ _ own ∙ held

    area-t : area_of (place_in t.desk p) ≡ area
    area-t = ap (λ (q : Place). q.given.area) own ∙ its

    none : (g : Stage) → is_over g ≡ true → t.desk ≡ staged s.desk p g → (taken r p (told es t) ≡ [])
        × (starts r p (told es t) ≡ [])
    none g o e =
        over_none r p es t sound-t holder_t
        (ap (λ (d : List ℕ). is_over (stage_in (place_in d p))) e ∙ ap is_over (staged-stage s.desk ok p in_p g) ∙ o) stays

    abbrev Ending : Outcome → Type 0
    Ending o =
        t.desk ≡ o.desk → starts_in r p (Feed r p block) o.answer (starts r p (told es t)) ≡ a ∷ others
        → Found (taken_in r p (Feed r p block) o.answer (taken r p (told es t)))

    ending : (g : StepResult) (after : List ℕ) → (block_step x due block core).step ≡ g
        → Ending (settled_of s.desk core p x.area g after)
    unfolding settled_of load_in
    ending (Ok (More g)) after e d z =
        let y = next t sound-t holder_t area-t stays (sym (cond_same (eqb r r && eqb p p) _) ∙ z) in
        rw (eq-eqb r r refl, eq-eqb p p refl) (record {
          some = omega arith;
          start = y.start ∙ rw (last_later block (taken r p (told es t)) y.some);
          once = y.once;
        })
    ending (Ok (Done b)) after e d z =
        let n = none Complete (unfold is_over in refl) d in
        let st : b ∷ starts r p (told es t) ≡ a ∷ others = rw (eq-eqb r r refl, eq-eqb p p refl) at z in
        rw (eq-eqb r r refl, eq-eqb p p refl, n.0) (record {
          some = omega arith;
          start = sym (ap (first_of a) st) ∙ block_laws.starts x due block core b e ∙ rw its;
          once = sym (ap rest_of st) ∙ n.1;
        })
    ending (Err f) after e d z =
        absurd (omega (
          arith,
          ap length
              (sym (none Broken (unfold is_over in refl) d).1 ∙ sym (cond_same (eqb r r && eqb p p) _) ∙ z),
        ))

  pub finds : (es : List Event) → Finds es
  unfolding told taken_of starts taken
  finds [] s ok h its q z = absurd (omega (arith, ap length z))
  finds (e ∷ es) s ok h its q z =
      let t = event e s in
      let o = event_own r p e s _ ok h q in
      let g = event_gone r p e s _ q in
      let k = event-sound e s ok in
      ⊎_elim
      (λ x. rw (x.takes_none _)
      (finds es t k (rw x.place h) (rw x.place its) g (sym (x.starts_none _) ∙ z)))
      (λ x. subst (λ (ts : List Told). starts r p ts ≡ a ∷ others → Found (taken r p ts)) (sym (x.told_so (told es t)))
      (ending es (finds es) s t ok h its k o g x.core x.block _ _ refl x.desk) z)
      (sort_any r p s ok h e _ q)

-- ---- Demand 2, of the start
pub demand_2_start : Demand2Start
unfolding load_in
demand_2_start o es a others grant stays done =
    let b = begun o grant in
    let y = finds o.room o.place o.area a others es (after_open o) b.ready.desk b.holder
    (ap (λ (x : Load). x.area) b.load) stays done in
    (y.start, y.once)
