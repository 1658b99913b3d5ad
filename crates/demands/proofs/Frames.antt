-- Demand 3, of the feeds: they meet the laws of `Framed` (Parts.antt), so in any order that keeps each load's own they give the
-- same. Given the laws of a block's step, and that feed keeps a desk sound.
use Prim.Native.Nat.{ℕ, suc, min, ◌≤◌}
use mathlib.Core.Path.{◌≡◌, refl, sym, ap, ◌∙◌}
use mathlib.Core.Bool.{true, false}
use mathlib.Core.List.{List, [], ◌∷◌, map}
use native.Mathlib.Omega.{arith}
use lib.ListN.{length, get_or}
use lib.Dec.{eqb, ltb}
use borrow.Author.Tests.{eqb-true, ne_eqb, le-ltb}
use Rattle.word.specs.Fault.{fault, unless}
use Rattle.word.specs.Lists.{range}
use Rattle.word.proofs.Cases.{by-test, by-lt}
use Rattle.word.specs.Limits.{place_count, room_count}
use Rattle.layout.specs.Layout.{fixed_words, core_length, holds}
use Rattle.desk.specs.Sound.{sound}
use Rattle.calls.specs.declared.Answer.{Answer}
use Rattle.calls.specs.declared.Answer.TheVariants.{Refused}
use Rattle.calls.specs.Outcome.{Outcome, refused}
use Rattle.calls.specs.Entry.{entry_refusal, entered}
use Rattle.calls.proofs.Entry.{entered-cases, entered_room}
use Rattle.feed.specs.Feed.{feed_of}
use Rattle.feed.proofs.Laws.{BlockLaws}
use Rattle.demands.specs.Orders.{run, only, answersOf, in_turn}
use Rattle.demands.specs.History.{State, answer_to, call}
use Rattle.demands.specs.History.Call.{Feed}
use Rattle.demands.specs.Feeding.{Fed, feed, fed_answer, place_number}
use Rattle.demands.specs.Demands.{SameForEach, SameOutcome, Demand3Orders, Demand3Turns}
use Rattle.demands.proofs.Prepared.{Prepared}
use Rattle.demands.proofs.Parts.{Framed, same_state, same_answers}
use Rattle.demands.proofs.Turns.{only_in_turn}
use Rattle.demands.proofs.Views.{View, view, view-kept}
use Rattle.demands.proofs.Rest.{Rest, rest_of, rest_still, fixed_at, whole}
use Rattle.demands.proofs.Reach.{left_by, feed_confined, feed_match}

-- ---- a feed that names no load
module _ (r p : ℕ) (block : List ℕ) (past : place_count ≤ p) where
  past_same : (s : State) → call (Feed r p block) s ≡ s
  unfolding call feed_of holds
  past_same s =
      let P : Outcome → Type 0 = λ o. left_by o ≡ s in
      rw (le-ltb p 12 past) (entered-cases s.desk (length s.core) r s.core _ P (λ m l h. refl) (λ k. refl))

  past_refused : (d core : List ℕ) → sound d ≡ true → length core ≡ core_length d
      → (feed_of d core r p block).answer ≡ unless (ltb r room_count) (Refused (fault 4)) (Refused (fault 9))
  unfolding feed_of holds
  past_refused d core k e =
      rw (entered_room d _ r _ _ k e, le-ltb p 12 past) (by-test (ltb r room_count) (λ q. rw q) (λ q. rw q))

  past_answer : (s t : State) → Prepared s → Prepared t → answer_to (Feed r p block) s ≡ answer_to (Feed r p block) t
  unfolding answer_to
  past_answer s t k m = past_refused s.desk s.core k.desk k.core
      ∙ sym (past_refused t.desk t.core m.desk m.core)

-- ---- the laws
core-length : (d e : List ℕ) → range d 0 fixed_words ≡ range e 0 fixed_words → core_length d ≡ core_length e
core-length d e q = sym (fixed_at d 0 (omega arith)) ∙ ap (λ (l : List ℕ). get_or l 0 0) q ∙ fixed_at e 0 (omega arith)

-- feed keeps a desk sound
abbrev pub FeedKeeps : Type 0
FeedKeeps = (d core block : List ℕ) (r p : ℕ) → sound d ≡ true → sound (feed_of d core r p block).desk ≡ true

module _ (laws : BlockLaws) (kept : FeedKeeps) where
  pub feed_ready : (r p : ℕ) (block : List ℕ) (s : State) → Prepared s → Prepared (call (Feed r p block) s)
  feed_ready r p block s k =
      let c = feed_confined laws s p block r in record {
        desk = unfold call in (kept s.desk s.core block r p k.desk);
        core = c.core ∙ k.core ∙ core-length s.desk (call (Feed r p block) s).desk (sym c.fixed);
      }

  module _ (r p : ℕ) (block : List ℕ) (s t : State) (k : Prepared s) (m : Prepared t) (v : view p s ≡ view p t) where
    own_view : view p (call (Feed r p block) s) ≡ view p (call (Feed r p block) t)
    unfolding call
    own_view = (feed_match laws s t p v k.desk m.desk k.core m.core block r).1

    own_answer : answer_to (Feed r p block) s ≡ answer_to (Feed r p block) t
    unfolding answer_to
    own_answer = (feed_match laws s t p v k.desk m.desk k.core m.core block r).0

  own : (e : Fed) (s t : State) → Prepared s → Prepared t → view (place_number e) s ≡ view (place_number e) t
      → view (place_number e) (feed e s) ≡ view (place_number e) (feed e t)
  own e s t k m v =
      by-lt e.place 12
      (λ h. let z : min e.place 12 ≡ e.place = omega arith in
      rw z (own_view e.room e.place e.block s t k m (rw z at v)))
      (λ h. rw (past_same e.room e.place e.block h s, past_same e.room e.place e.block h t) v)

  answered : (e : Fed) (s t : State) → Prepared s → Prepared t → view (place_number e) s ≡ view (place_number e) t
      → fed_answer e s ≡ fed_answer e t
  answered e s t k m v =
      by-lt e.place 12
      (λ h. let z : min e.place 12 ≡ e.place = omega arith in
      own_answer e.room e.place e.block s t k m (rw z at v))
      (λ h. past_answer e.room e.place e.block h s t k m)

  other : (e : Fed) (q : ℕ) (s : State) → Prepared s → (place_number e ≡ q → ⊥) → view q (feed e s) ≡ view q s
  other e q s k n =
      by-lt e.place 12
      (λ h. view-kept e.place s (feed e s) k.desk (feed_confined laws s e.place e.block e.room) q
      (λ z. n (omega arith)))
      (λ h. rw (past_same e.room e.place e.block h s))

  still : (e : Fed) (s : State) → Prepared s → rest_of (feed e s) ≡ rest_of s
  still e s k =
      by-lt e.place 12
      (λ h. rest_still e.place h s (feed e s) (feed_confined laws s e.place e.block e.room))
      (λ h. rw (past_same e.room e.place e.block h s))

  framed : Framed State Fed View Answer Rest place_number feed fed_answer Prepared view rest_of
  framed = record {
    kept = λ e s k. feed_ready e.room e.place e.block s k;
    own = own;
    other = other;
    still = still;
    answered = answered;
    whole = λ s t k m r v. whole s t r v;
  }

  -- where the desk is not sound, or the core not of its length, every feed is refused so, and changes nothing
  module _ (s : State) (a : Answer) (same : (e : Fed) → feed e s ≡ s) (refused : (e : Fed) → fed_answer e s ≡ a) where
    run_same : (es : List Fed) → run feed es s ≡ s
    unfolding run
    run_same [] = refl
    run_same (e ∷ es) = ap (run feed es) (same e) ∙ run_same es

    answers_same : (p : ℕ) (es : List Fed)
        → answersOf place_number feed fed_answer p es s ≡ map (λ (e : Fed). a) (only place_number p es)
    unfolding answersOf only
    answers_same p [] = refl
    answers_same p (e ∷ es) =
        let ih = ap (answersOf place_number feed fed_answer p es) (same e) ∙ answers_same p es in
        by-test (eqb (place_number e) p) (λ q. simp (q, refused e, ih)) (λ q. simp (q, ih))

    orders_same : (es fs : List Fed) → SameForEach es fs → SameOutcome s es fs
    orders_same es fs h = (
      run_same es ∙ sym (run_same fs),
      λ p. answers_same p es ∙ ap (map (λ (e : Fed). a)) (h p) ∙ sym (answers_same p fs),
    )

  module _ (s : State) (n : ℕ) (e : (r : ℕ) → entry_refusal s.desk (length s.core) r ≡ suc n) where
    all-refused : (r p : ℕ) (block : List ℕ) → feed_of s.desk s.core r p block ≡ refused (suc n) s.desk s.core
    unfolding feed_of entered
    all-refused r p block = rw (e r, ne_eqb (suc n) 0 (λ z. omega arith))

    refused_orders : (es fs : List Fed) → SameForEach es fs → SameOutcome s es fs
    unfolding call answer_to
    refused_orders =
        orders_same s (Refused (fault (suc n)))
        (λ x. ap left_by (all-refused x.room x.place x.block))
        (λ x. ap (λ (o : Outcome). o.answer) (all-refused x.room x.place x.block))

  not_sound : (d : List ℕ) (n r : ℕ) → sound d ≡ false → entry_refusal d n r ≡ 1
  unfolding entry_refusal
  not_sound d n r q = rw q

  other_length : (d : List ℕ) (n r : ℕ) → sound d ≡ true → eqb n (core_length d) ≡ false → entry_refusal d n r ≡ 2
  unfolding entry_refusal
  other_length d n r k q = rw (k, q)

  pub demand_3_orders : Demand3Orders
  demand_3_orders s es fs h =
      by-test (sound s.desk)
      (λ k. by-test (eqb (length s.core) (core_length s.desk))
      (λ e. let m : Prepared s = record { desk = k; core = eqb-true _ (core_length s.desk) e } in
      (same_state framed es fs s m h, same_answers framed es fs s m h))
      (λ e. refused_orders s 1 (λ r. other_length s.desk (length s.core) r k e) es fs h))
      (λ k. refused_orders s 0 (λ r. not_sound s.desk (length s.core) r k) es fs h)

  pub demand_3_turns : Demand3Turns
  demand_3_turns s es = demand_3_orders s es (in_turn place_number 13 es) (only_in_turn place_number 13 (λ e. omega arith) es)
