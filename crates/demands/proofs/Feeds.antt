-- What happens, seen from one load that is held: it changes nothing of the load, or it is a feed of its own whose block it takes.
-- So the desk keeps what open wrote of it; and a load that is over takes no block.
use Prim.Native.Nat.{ℕ, ◌+◌, ◌≤◌, ◌<◌}
use mathlib.Core.Path.{◌≡◌, refl, sym, ap, ◌∙◌}
use mathlib.Core.Bool.{Bool, true, false, not, cond, ◌&&◌, true≢false, false≢true}
use mathlib.Core.List.{List, [], ◌∷◌}
use mathlib.Core.Logic.{◌⊎◌, inl, inr, ⊎_elim}
use native.Mathlib.Omega.{arith}
use lib.ListN.{length, length-set}
use lib.Seq.{get_or-set_other}
use lib.Dec.{eqb}
use borrow.Author.Tests.{eq-eqb, ne_eqb, le-leb, lt-ltb}
use Rattle.word.specs.Lists.{every}
use Rattle.word.specs.declared.Absolute.{Absolute}
use Rattle.word.specs.declared.Area.{Area}
use Rattle.word.proofs.Cases.{by-eq, when, and_left, and_right}
use Rattle.stage.specs.Record.{is_over}
use Rattle.layout.specs.Layout.{place_in, holder_of, stage_in, holds}
use Rattle.desk.specs.Sound.{sound}
use Rattle.calls.specs.Outcome.{Outcome}
use Rattle.calls.proofs.Entry.{entered-cases}
use Rattle.feed.specs.Feed.{taken_of, feed_of, load_in}
use Rattle.feed.proofs.Blocked.{block_laws}
use Rattle.demands.specs.Orders.{run}
use Rattle.demands.specs.History.{State, Call, answer_to, call, Event, lent, event, Told, told_by, told, taken_in, taken}
use Rattle.demands.specs.History.{starts_in, starts, gone_by, is_gone, feeds_it, is_in, harmless}
use Rattle.demands.specs.History.Call.{Make, Open, Feed, Release}
use Rattle.demands.specs.History.Event.{Here, Elsewhere, OutsideStore}
use Rattle.demands.proofs.Prepared.{Prepared}
use Rattle.demands.proofs.Held.{area_of, held_by_lem}
use Rattle.demands.proofs.Views.{View, view, view_by, view-kept}
use Rattle.demands.proofs.Reach.{left_by, feed_confined}
use Rattle.demands.proofs.Outcomes.{make-sorted, feed-sorted}
use Rattle.demands.proofs.Ready.{neither, event_gone, event_ready}
use Rattle.demands.proofs.Calls.{open_view, release_view}

pub place_of : (p : ℕ) (s t : State) → view p t ≡ view p s → place_in t.desk p ≡ place_in s.desk p
unfolding view
place_of p s t v = ap (λ (w : View). w.place) v

pub cond_same : {X : Type 0} (b : Bool) (x : X) → cond b x x ≡ x
cond_same true x = refl
cond_same false x = refl

-- ---- a call seen from the load of room r at place p, in a state whose desk is sound
pub record CallIdle (r p : ℕ) (c : Call) (s : State) : Type 0 where
  pub same : view p (call c s) ≡ view p s
  pub takes_none : (rest : List (List ℕ)) → taken_in r p c (answer_to c s) rest ≡ rest
  pub starts_none : (rest : List Absolute) → starts_in r p c (answer_to c s) rest ≡ rest

abbrev CallTakesIt : ℕ → ℕ → Call → State → Type 0
CallTakesIt r p c s =
    (block : List ℕ) × (c ≡ Feed r p block) × (is_over (stage_in (place_in s.desk p)) ≡ false)
    × (feed_of s.desk s.core r p block ≡ taken_of s.desk s.core p (load_in (place_in s.desk p))
    (stage_in (place_in s.desk p)) block)

module _ (r p : ℕ) (s : State) (ok : sound s.desk ≡ true) (held : holder_of (place_in s.desk p) ≡ r + 1) where
  own_sorted : (block : List ℕ) → CallIdle r p (Feed r p block) s ⊎ CallTakesIt r p (Feed r p block) s
  unfolding call answer_to
  own_sorted block =
      ⊎_elim
      (λ x. inl (record {
        same = ap (λ (o : Outcome). view p (left_by o)) x.1;
        takes_none = λ rest. ap (λ (o : Outcome). taken_in r p (Feed r p block) o.answer rest) x.1
            ∙ rw (eq-eqb r r refl, eq-eqb p p refl);
        starts_none = λ rest. ap (λ (o : Outcome). starts_in r p (Feed r p block) o.answer rest) x.1
            ∙ cond_same (eqb r r && eqb p p) rest;
      }))
      (λ x. inr (block, refl, x.0, x.1))
      (feed-sorted s.desk s.core r p block)

  -- another room's feed is refused
  wrong_room : (q : ℕ) (block : List ℕ) → (q ≡ r → ⊥) → call (Feed q p block) s ≡ s
  unfolding call feed_of
  wrong_room q block n =
      let P : Outcome → Type 0 = λ o. left_by o ≡ s in
      entered-cases s.desk (length s.core) q s.core _ P (λ m l h. refl)
      (λ k. when P (holds s.desk q p)
      (λ h. absurd (n (omega (arith, held_by_lem s.desk q p h))))
      (λ h. refl))

  feed-call : (q k : ℕ) (block : List ℕ) → CallIdle r p (Feed q k block) s ⊎ CallTakesIt r p (Feed q k block) s
  feed-call q k block =
      by-eq q r
      (λ e. by-eq k p
      (λ f. rw (e, f) (own_sorted block))
      (λ f. inl (record {
        same = view-kept k s (call (Feed q k block) s) ok (feed_confined block_laws s k block q) p (λ z. f (sym z));
        takes_none = λ rest. rw (eq-eqb q r e, ne_eqb k p f);
        starts_none = λ rest. rw (eq-eqb q r e, ne_eqb k p f);
      })))
      (λ e. inl (record {
        same = by-eq k p (λ f. rw (f, wrong_room q block e))
            (λ f. view-kept k s (call (Feed q k block) s) ok (feed_confined block_laws s k block q) p (λ z. f (sym z)));
        takes_none = λ rest. rw (ne_eqb q r e);
        starts_none = λ rest. rw (ne_eqb q r e);
      }))

  -- a make that was not accepted changes nothing
  pub make-view : (n : ℕ) (m : List ℕ) → gone_by r p (Make n m) (answer_to (Make n m) s) ≡ false
      → view p (call (Make n m) s) ≡ view p s
  unfolding call answer_to
  make-view n m e =
      ⊎_elim
      (λ x. ap (λ (o : Outcome). view p (record { desk = o.desk; core = s.core })) x.1)
      (λ x. absurd (true≢false (rw x at e)))
      (make-sorted s.desk n m)

  pub sort_call : (c : Call) → gone_by r p c (answer_to c s) ≡ false → CallIdle r p c s ⊎ CallTakesIt r p c s
  sort_call (Make n m) e = inl (record { same = make-view n m e; takes_none = λ l. refl; starts_none = λ l. refl })
  sort_call (Open q a ios tables) e =
      inl (record { same = open_view q a ios tables s p (λ z. omega arith); takes_none = λ l. refl; starts_none = λ l. refl })
  sort_call (Feed q k block) e = feed-call q k block
  sort_call (Release n q k) e =
      inl (record { same = release_view n q k s r p held e; takes_none = λ l. refl; starts_none = λ l. refl })

-- ---- an event
pub record Idle (r p : ℕ) (e : Event) (s : State) : Type 0 where
  pub same : view p (event e s) ≡ view p s
  pub takes_none : (rest : List Told) → taken r p (told_by e s rest) ≡ taken r p rest
  pub starts_none : (rest : List Told) → starts r p (told_by e s rest) ≡ starts r p rest

abbrev pub TakesIt : ℕ → ℕ → Event → State → Type 0
TakesIt r p e s =
    (block : List ℕ) × (e ≡ Here (Feed r p block)) × (is_over (stage_in (place_in s.desk p)) ≡ false)
    × (feed_of s.desk s.core r p block ≡ taken_of s.desk s.core p (load_in (place_in s.desk p))
    (stage_in (place_in s.desk p)) block)

-- a call that is lent another core leaves ours as it was
elsewhere_view : (p : ℕ) (s : State) (other : List ℕ) (c : Call) → view p (call c (lent other s)) ≡ view p (lent other s)
    → view p (event (Elsewhere other c) s) ≡ view p s
unfolding event
elsewhere_view p s other c v = view_by s _ p (place_of p (lent other s) (call c (lent other s)) v) refl (λ h j a b. refl)

-- a store outside the area
store_view : (p : ℕ) (s : State) (j v : ℕ) → is_in (area_of (place_in s.desk p)) j ≡ false
    → view p (event (OutsideStore j v) s) ≡ view p s
unfolding event
store_view p s j v out =
    let area = area_of (place_in s.desk p) in
    let away : (i : ℕ) → area.at.0 ≤ i → i < area.at.0 + area.size → i ≡ j → ⊥ =
    λ i a b z. true≢false (rw (le-leb area.at.0 j (omega arith), lt-ltb j (area.at.0 + area.size) (omega arith)) at out) in
    view_by s _ p refl (length-set s.core j v) (λ h i a b. get_or-set_other s.core j i v 0 (λ z. away i a b (omega arith)))

pub not_true : (b : Bool) → not b ≡ true → b ≡ false
not_true true q = absurd (false≢true q)
not_true false q = refl

pub own_feed : (r p : ℕ) (block : List ℕ) → feeds_it r p (Feed r p block) ≡ true
own_feed r p block = rw (eq-eqb r r refl, eq-eqb p p refl)

module _ (r p : ℕ) (area : Area) (s : State) (ok : sound s.desk ≡ true) (held : holder_of (place_in s.desk p) ≡ r + 1)
    (its : area_of (place_in s.desk p) ≡ area) where
  pub sort_event : (e : Event) (rest : List Told) → harmless r p area e ≡ true → is_gone r p (told_by e s rest) ≡ false
      → Idle r p e s ⊎ TakesIt r p e s
  unfolding event taken starts is_gone
  sort_event (Here c) rest h q =
      ⊎_elim
      (λ x. inl (record { same = x.same; takes_none = λ l. x.takes_none _; starts_none = λ l. x.starts_none _ }))
      (λ x. inr (x.0, ap Here x.1, x.2, x.3))
      (sort_call r p s ok held c (neither (gone_by r p c (answer_to c s)) (is_gone r p rest) q).0)
  sort_event (Elsewhere other c) rest h q =
      let t = lent other s in
      ⊎_elim
      (λ x. inl (record {
        same = elsewhere_view p s other c
            x.same;
        takes_none = λ l. x.takes_none _;
        starts_none = λ l. x.starts_none _;
      }))
      (λ x. absurd (true≢false (sym (own_feed r p x.0) ∙ ap (feeds_it r p) (sym x.1) ∙ not_true _ h)))
      (sort_call r p t ok held c (neither (gone_by r p c (answer_to c t)) (is_gone r p rest) q).0)
  sort_event (OutsideStore j v) rest h q =
      inl (record {
        same = store_view p s j v
            (rw its (not_true (is_in area j) h));
        takes_none = λ l. refl;
        starts_none = λ l. refl;
      })

-- ---- a load that is over
pub record Quiet (r p : ℕ) (es : List Event) (s : State) : Type 0 where
  pub none : taken r p (told es s) ≡ []
  pub no_start : starts r p (told es s) ≡ []
  pub same : view p (run event es s) ≡ view p s

module _ (r p : ℕ) (area : Area) where
  pub all_head : (e : Event) (es : List Event) → every (harmless r p area) (e ∷ es) ≡ true → harmless r p area e ≡ true
  unfolding every
  all_head e es q = and_left (harmless r p area e) (every (harmless r p area) es) q

  pub all_tail : (e : Event) (es : List Event) → every (harmless r p area) (e ∷ es) ≡ true → every (harmless r p area) es ≡ true
  unfolding every
  all_tail e es q = and_right (harmless r p area e) (every (harmless r p area) es) q

  pub quiet : (es : List Event) (s : State) → Prepared s → holder_of (place_in s.desk p) ≡ r + 1
      → area_of (place_in s.desk p) ≡ area
      → is_over (stage_in (place_in s.desk p)) ≡ true → every (harmless r p area) es ≡ true → is_gone r p (told es s) ≡ false
      → Quiet r p es s
  unfolding told run
  quiet [] s k h a o f q = record { none = unfold taken in refl; no_start = unfold starts in refl; same = refl }
  quiet (e ∷ es) s k h a o f q =
      ⊎_elim
      (λ i. let z = place_of p s (event e s) i.same in
      let n = quiet es (event e s) (event_ready r p e s _ k q) (rw z h) (rw z a) (rw z o) (all_tail e es f)
      (event_gone r p e s _ q) in
      record {
        none = i.takes_none _ ∙ n.none;
        no_start = i.starts_none _ ∙ n.no_start;
        same = n.same ∙ i.same;
      })
      (λ z. absurd (true≢false (sym o ∙ z.2)))
      (sort_event r p area s k.desk h a e _ (all_head e es f) q)
