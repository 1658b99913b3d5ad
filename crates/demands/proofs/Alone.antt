-- What happened made no difference to a load: its feeds are answered, and its area is, as if they alone had come.
use Prim.Native.Nat.{ℕ, ◌+◌}
use mathlib.Core.Path.{◌≡◌, refl, sym, ap, ap₂, subst, ◌∙◌}
use mathlib.Core.Bool.{true, false, true≢false, false≢true}
use mathlib.Core.List.{List, [], ◌∷◌}
use mathlib.Core.Logic.{⊎_elim}
use native.Mathlib.Omega.{arith}
use lib.Dec.{eqb}
use borrow.Author.Tests.{eqb-true, eq-eqb}
use Rattle.word.specs.Lists.{every}
use Rattle.word.specs.declared.Area.{Area}
use Rattle.word.proofs.Cases.{by-test, and_left, and_right}
use Rattle.lists.specs.Load.{Load}
use Rattle.layout.specs.declared.Place.{Place}
use Rattle.layout.specs.Layout.{place_in, holder_of}
use Rattle.feed.specs.Feed.{load_in}
use Rattle.feed.proofs.Blocked.{block_laws}
use Rattle.demands.specs.Orders.{run}
use Rattle.demands.specs.History.{State, Call, answer_to, call, Event, event, Told, told_by, told, is_gone, harmless}
use Rattle.demands.specs.History.{feeds_it, is_own_feed, own_feeds, answers_for}
use Rattle.demands.specs.History.Call.{Make, Open, Feed, Release}
use Rattle.demands.specs.History.Event.{Here, Elsewhere, OutsideStore}
use Rattle.demands.specs.Opening.{after_open, own_events}
use Rattle.demands.specs.Demands.{Demand2Alone}
use Rattle.demands.proofs.Prepared.{Prepared}
use Rattle.demands.proofs.Held.{area_of}
use Rattle.demands.proofs.Views.{view, words_held}
use Rattle.demands.proofs.Reach.{feed_match}
use Rattle.demands.proofs.Ready.{event_gone, event_ready}
use Rattle.demands.proofs.Feeds.{not_true, own_feed, all_head, all_tail, sort_event}
use Rattle.demands.proofs.Begun.{begun}
use Rattle.demands.proofs.Kept.{holder_of_lem, event_own, own_kept}

-- ---- an event is a feed of the load's own, or no answer of it counts
own_call : (r p : ℕ) (c : Call) → feeds_it r p c ≡ true → (block : List ℕ) × (c ≡ Feed r p block)
own_call r p (Make n m) q = absurd (false≢true q)
own_call r p (Open q a ios tables) z = absurd (false≢true z)
own_call r p (Feed q k block) z =
    let e = eqb-true q r (and_left (eqb q r) (eqb k p) z) in
    let f = eqb-true k p (and_right (eqb q r) (eqb k p) z) in
    (block, rw (e, f))
own_call r p (Release n q k) z = absurd (false≢true z)

own_event : (r p : ℕ) (e : Event) → is_own_feed r p e ≡ true → (block : List ℕ) × (e ≡ Here (Feed r p block))
own_event r p (Here c) q = let x = own_call r p c q in (x.0, ap Here x.1)
own_event r p (Elsewhere other c) q = absurd (false≢true q)
own_event r p (OutsideStore j v) q = absurd (false≢true q)

other_answers : (r p : ℕ) (area : Area) (e : Event) (s : State) (rest : List Told) → is_own_feed r p e ≡ false
    → harmless r p area e ≡ true
    → answers_for r p (told_by e s rest) ≡ answers_for r p rest
unfolding answers_for
other_answers r p area (Here c) s rest q h = rw q
other_answers r p area (Elsewhere other c) s rest q h = rw (not_true (feeds_it r p c) h)
other_answers r p area (OutsideStore j v) s rest q h = refl

own_answers : (r p : ℕ) (block : List ℕ) (s : State) (rest : List Told)
    → answers_for r p (told_by (Here (Feed r p block)) s rest) ≡ answer_to (Feed r p block) s ∷ answers_for r p rest
unfolding answers_for
own_answers r p block s rest = rw (eq-eqb r r refl, eq-eqb p p refl)

-- ---- the load goes the same way in both
module _ (r p : ℕ) (area : Area) where
  abbrev Alone : List Event → State → State → Type 0
  Alone es s t =
      (answers_for r p (told es s) ≡ answers_for r p (told (own_feeds r p es) t))
      × (view p (run event es s) ≡ view p (run event (own_feeds r p es) t))

  abbrev Goes : List Event → Type 0
  Goes es =
      (s t : State) → Prepared s → Prepared t → view p s ≡ view p t
      → holder_of (place_in s.desk p) ≡ r + 1 → area_of (place_in s.desk p) ≡ area
      → every (harmless r p area) es ≡ true → is_gone r p (told es s) ≡ false → Alone es s t

  -- its own feed comes in both
  module _ (block : List ℕ) where
    abbrev it : Event
    it = Here (Feed r p block)

    own_ready : (t : State) → Prepared t → Prepared (call (Feed r p block) t)
    unfolding is_gone event
    own_ready t k = event_ready r p it t [] k refl

    own_goes : (es : List Event) → Goes es → (s t : State) → Prepared s → Prepared t → view p s ≡ view p t
        → holder_of (place_in s.desk p) ≡ r + 1 → area_of (place_in s.desk p) ≡ area
        → every (harmless r p area) es ≡ true → is_gone r p (told (it ∷ es) s) ≡ false → Alone (it ∷ es) s t
    unfolding told run own_feeds event call answer_to
    own_goes es ih s t ks kt v h a safe q =
        let o = event_own r p it s _ ks.desk h q in
        let m = feed_match block_laws s t p v ks.desk kt.desk ks.core kt.core block r in
        let n = ih (call (Feed r p block) s) (call (Feed r p block) t) (own_ready s ks) (own_ready t kt) m.1
        (holder_of_lem _ _ o ∙ h) (ap (λ (x : Place). x.given.area) o ∙ a) safe (event_gone r p it s _ q) in
        rw (own_feed r p block)
        (own_answers r p block s _ ∙ ap₂ ◌∷◌ m.0 n.0 ∙ sym (own_answers r p block t _), n.1)

  pub alone : (es : List Event) → Goes es
  unfolding told run own_feeds
  alone [] s t ks kt v h a f q = (refl, v)
  alone (e ∷ es) s t ks kt v h a f q =
      let safe = all_tail r p area e es f in
      by-test (is_own_feed r p e)
      (λ z. let (block, is) = own_event r p e z in
      subst (λ (x : Event). Alone (x ∷ es) s t) (sym is)
      (own_goes block es (alone es) s t ks kt v h a safe (subst (λ (x : Event). is_gone r p (told (x ∷ es) s) ≡ false) is q)))
      (λ z. let o = event_own r p e s _ ks.desk h q in
      let same = ⊎_elim
      (λ i. i.same)
      (λ w. absurd (true≢false (sym (own_feed r p w.0) ∙ sym (ap (is_own_feed r p) w.1) ∙ z)))
      (sort_event r p area s ks.desk h a e _ (all_head r p area e es f) q) in
      let n = alone es (event e s) t (event_ready r p e s _ ks q) kt (same ∙ v)
      (holder_of_lem _ _ o ∙ h) (ap (λ (x : Place). x.given.area) o ∙ a) safe (event_gone r p e s _ q) in
      rw z (other_answers r p area e s _ z (all_head r p area e es f) ∙ n.0, n.1))

-- ---- Demand 2
pub demand_2_alone : Demand2Alone
unfolding load_in
demand_2_alone o es grant stays safe =
    let b = begun o grant in
    let t = after_open o in
    let its : area_of (place_in t.desk o.place) ≡ o.area = ap (λ (y : Load). y.area) b.load in
    let k = alone o.room o.place o.area es t t b.ready b.ready refl b.holder its safe stays in
    let own = own_kept o.room o.place es t b.ready.desk b.holder stays in
    let end : area_of (place_in (run event es t).desk o.place) ≡ o.area = ap (λ (q : Place). q.given.area) own ∙ its in (
      k.0,
      sym (rw end at (words_held o.place (run event es t) (run event (own_events o es) t) (sym k.1)
          (λ z. omega (arith, holder_of_lem _ _ own, b.holder)))),
    )
