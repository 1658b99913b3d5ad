-- A feed changes its own load's view alone, and what it does to it, and its answer, hang on that view alone. Given the laws of a
-- block's step.
use Prim.Native.Nat.{ℕ, ◌+◌, ◌≤◌, ◌<◌}
use mathlib.Core.Path.{◌≡◌, refl, sym, ap, ◌∙◌}
use mathlib.Core.Bool.{Bool, true, false, cond, true≢false, false≢true}
use mathlib.Core.List.{List}
use native.Mathlib.Omega.{arith}
use lib.ListN.{length, get_or}
use lib.Dec.{ltb}
use Rattle.word.specs.Lists.{range}
use Rattle.word.proofs.Cases.{when}
use Rattle.word.proofs.Stretch.{Beside, length-cleared, get_d_cleared_beside}
use Rattle.word.specs.Limits.{place_count, room_count}
use Rattle.std.specs.Prelude.{Ok, Err}
use Rattle.word.specs.Fault.{Verdict}
use Rattle.stage.specs.declared.Stage.{Stage}
use Rattle.stage.specs.declared.Stage.TheVariants.{Complete, Broken}
use Rattle.stage.specs.Step.{StepResult}
use Rattle.stage.specs.declared.Step.TheVariants.{More, Done}
use Rattle.stage.specs.Record.{is_over}
use Rattle.layout.specs.Layout.{core_length, place_in, holder_in, holder_of, own_of, stage_in, holds}
use Rattle.layout.proofs.Places.{holder_at_lem, holds-inside}
use Rattle.desk.specs.Sound.{sound}
use Rattle.calls.specs.Outcome.{Outcome}
use Rattle.calls.proofs.Entry.{entered_room, entered-cases}
use Rattle.feed.specs.Block.{block_step}
use Rattle.feed.specs.Feed.{load_in, staged, wiped, settled_of, taken_of, checked_of, held_of, feed_of}
use Rattle.feed.proofs.Laws.{BlockLaws}
use Rattle.demands.specs.History.{State, call}
use Rattle.demands.specs.History.Call.{Feed}
use Rattle.demands.proofs.Held.{area_of, held_by_lem, held-inside, held_fit}
use Rattle.demands.proofs.Views.{View, words_of, view, view_eq, extent-held, words_of_lem, alike_range, range_inside}
use Rattle.demands.proofs.Views.{cleared_words, Confined, confined_same, staged-place, staged_own, staged_confined}

-- ---- a feed
abbrev pub left_by : Outcome → State
left_by o = record { desk = o.desk; core = o.core }

module _ (laws : BlockLaws) (s : State) (p : ℕ) (block : List ℕ) where
  abbrev Kept : Outcome → Type 0
  Kept o = Confined p s (left_by o)

  module _ (ok : sound s.desk ≡ true) (e : length s.core ≡ core_length s.desk) (in_p : p < place_count)
      (held : holder_of (place_in s.desk p) ≡ 0 → ⊥) where
    abbrev numbers : List ℕ
    numbers = place_in s.desk p

    area-inside : (area_of numbers).at.0 + (area_of numbers).size ≤ length s.core
    area-inside = omega (arith, held-inside s.desk ok p held)

    pub settled_confined : (g : StepResult) (k : List ℕ) → length k ≡ length s.core
        → ((j : ℕ) → Beside j (area_of numbers).at.0 (area_of numbers).size → get_or k j 0 ≡ get_or s.core j 0)
        → Kept (settled_of s.desk s.core p (area_of numbers) g k)
    unfolding settled_of
    settled_confined (Ok (More t)) k l b =
        staged_confined s.desk ok p in_p t s.core k l (rw (extent-held numbers held) b)
    settled_confined (Ok (Done a)) k l b =
        staged_confined s.desk ok p in_p Complete s.core k l (rw (extent-held numbers held) b)
    settled_confined (Err f) k l b =
        staged_confined s.desk ok p in_p Broken s.core (wiped (area_of numbers) s.core)
        (length-cleared s.core _ _ area-inside)
        (rw (extent-held numbers held) (λ j o. get_d_cleared_beside s.core _ _ j area-inside o))

    taken_confined : Kept (taken_of s.desk s.core p (load_in numbers) (stage_in numbers) block)
    unfolding taken_of load_in
    taken_confined =
        let f = held_fit s.desk ok p held in
        settled_confined _ _
        (laws.long (load_in numbers) (stage_in numbers) block s.core f area-inside)
        (laws.beside (load_in numbers) (stage_in numbers) block s.core f area-inside)

    checked_confined : (v : Verdict)
        → Kept (checked_of s.desk s.core (taken_of s.desk s.core p (load_in numbers) (stage_in numbers) block) v)
    unfolding checked_of
    checked_confined (Ok t) = taken_confined
    checked_confined (Err f) = confined_same p s

    held_confined : Kept (held_of s.desk s.core p block)
    unfolding held_of
    held_confined = when Kept (is_over (stage_in numbers)) (λ o. confined_same p s) (λ o. checked_confined _)

  pub feed_confined : (r : ℕ) → Confined p s (call (Feed r p block) s)
  unfolding call feed_of
  feed_confined r =
      entered-cases s.desk (length s.core) r s.core _ Kept (λ m l h. confined_same p s)
      (λ k. when Kept (holds s.desk r p)
      (λ q. held_confined k.desk k.core (holds-inside s.desk r p q) (λ z. omega (arith, held_by_lem s.desk r p q)))
      (λ q. confined_same p s))

-- ---- two states with the same view of a place, fed the same
module _ {X : Type 0} (R : X → X → Type 0) {x y z w : X} where
  pub both_when : (b c : Bool) → b ≡ c → (b ≡ true → R x z) → (b ≡ false → R y w) → R (cond b x y) (cond c z w)
  both_when true true q f g = f refl
  both_when true false q f g = absurd (true≢false q)
  both_when false true q f g = absurd (false≢true q)
  both_when false false q f g = g refl

module _ (laws : BlockLaws) (s t : State) (p : ℕ) (same : view p s ≡ view p t) where
  place_same : place_in t.desk p ≡ place_in s.desk p
  unfolding view
  place_same = ap (λ (v : View). v.place) (sym same)

  words_same : words_of (place_in s.desk p) s.core ≡ words_of (place_in s.desk p) t.core
  unfolding view
  words_same = ap (λ (v : View). v.words) same ∙ rw place_same

  -- the same answer, and the same view after
  abbrev Match : Outcome → Outcome → Type 0
  Match o q = (o.answer ≡ q.answer) × (view p (left_by o) ≡ view p (left_by q))

  module _ (ok : sound s.desk ≡ true) (ot : sound t.desk ≡ true) (es : length s.core ≡ core_length s.desk)
      (et : length t.core ≡ core_length t.desk) (block : List ℕ) where
    module _ (in_p : p < place_count) (held : holder_of (place_in s.desk p) ≡ 0 → ⊥) where
      abbrev l : List ℕ
      l = place_in s.desk p

      inside_s : (area_of l).at.0 + (area_of l).size ≤ length s.core
      inside_s = omega (arith, held-inside s.desk ok p held)

      inside-t : (area_of l).at.0 + (area_of l).size ≤ length t.core
      inside-t = omega (arith, rw place_same at (held-inside t.desk ot p (rw place_same held)))

      -- the place with its stage written, and any words that are the same in the area
      staged_match : (g : Stage) (k m : List ℕ)
          → range k (area_of l).at.0 (area_of l).size ≡ range m (area_of l).at.0 (area_of l).size
          → view p (record { desk = staged s.desk p g; core = k }) ≡ view p (record { desk = staged t.desk p g; core = m })
      unfolding view words_of
      staged_match g k m e =
          view_eq _ _
          (staged-place s.desk ok p in_p g ∙ rw place_same at (sym (staged-place t.desk ot p in_p g)))
          (words_of_lem _ l k (staged_own s.desk ok p in_p g)
          ∙ rw (extent-held l held) e
          ∙ sym (words_of_lem _ l m (staged_own t.desk ot p in_p g ∙ ap own_of place_same)))

      settled_match : (g : StepResult) (k m : List ℕ)
          → range k (area_of l).at.0 (area_of l).size ≡ range m (area_of l).at.0 (area_of l).size
          → Match (settled_of s.desk s.core p (area_of l) g k) (settled_of t.desk t.core p (area_of l) g m)
      unfolding settled_of
      settled_match (Ok (More g)) k m e = (refl, staged_match g k m e)
      settled_match (Ok (Done a)) k m e = (refl, staged_match Complete k m e)
      settled_match (Err f) k m e =
          (refl, staged_match Broken _ _ (cleared_words s.core _ _ inside_s ∙ sym (cleared_words t.core _ _ inside-t)))

      after_alike : range (block_step (load_in l) (stage_in l) block s.core).core (area_of l).at.0 (area_of l).size
          ≡ range (block_step (load_in l) (stage_in l) block t.core).core (area_of l).at.0 (area_of l).size
      unfolding load_in words_of
      after_alike =
          let f = held_fit s.desk ok p held in
          let n = laws.long (load_in l) (stage_in l) block in
          let w = rw (extent-held l held) at words_same in
          range_inside _ _ _ _ (rw (n s.core f inside_s) inside_s) (rw (n t.core f inside-t) inside-t)
          (laws.same_words (load_in l) (stage_in l) block s.core t.core f inside_s inside-t
          (alike_range s.core t.core _ _ w))

      taken_match : Match (taken_of s.desk s.core p (load_in l) (stage_in l) block)
          (taken_of t.desk t.core p (load_in l) (stage_in l) block)
      unfolding taken_of load_in
      taken_match =
          rw (laws.same_step (load_in l) (stage_in l) block t.core s.core (held_fit s.desk ok p held) inside-t inside_s)
          (settled_match _ _ _ after_alike)

      checked_match : (v : Verdict)
          → Match (checked_of s.desk s.core (taken_of s.desk s.core p (load_in l) (stage_in l) block) v)
          (checked_of t.desk t.core (taken_of t.desk t.core p (load_in l) (stage_in l) block) v)
      unfolding checked_of
      checked_match (Ok t) = taken_match
      checked_match (Err f) = (refl, same)

      held_match : Match (held_of s.desk s.core p block) (held_of t.desk t.core p block)
      unfolding held_of
      held_match = rw place_same
          (both_when Match (is_over (stage_in l)) (is_over (stage_in l)) refl (λ o. (refl, same)) (λ o. checked_match _))

    holds_same : (r : ℕ) → holds s.desk r p ≡ holds t.desk r p
    unfolding holds
    holds_same r =
        let e : holder_in t.desk p ≡ holder_in s.desk p = holder_at_lem t.desk p ∙ ap holder_of place_same
        ∙ sym (holder_at_lem s.desk p) in
        rw e

    pub feed_match : (r : ℕ) → Match (feed_of s.desk s.core r p block) (feed_of t.desk t.core r p block)
    unfolding feed_of
    feed_match r =
        rw (entered_room s.desk _ r _ _ ok es, entered_room t.desk _ r _ _ ot et)
        (both_when Match (ltb r room_count) (ltb r room_count) refl
        (λ h. both_when Match (holds s.desk r p) (holds t.desk r p) (holds_same r)
        (λ q. held_match (holds-inside s.desk r p q) (λ z. omega (arith, held_by_lem s.desk r p q)))
        (λ q. (refl, same)))
        (λ h. (refl, same)))
