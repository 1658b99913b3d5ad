-- Steps that touch only their own part of a state: any order that keeps each part's own order gives the same.
use Prim.Native.Nat.{ℕ}
use mathlib.Core.Path.{◌≡◌, refl, sym, ap, ◌∙◌}
use mathlib.Core.Bool.{Bool, true, false, cond}
use mathlib.Core.List.{List, [], ◌∷◌}
use lib.Dec.{eqb}
use borrow.Author.Tests.{eqb-true, eqb-false}
use Rattle.demands.specs.Orders.{run, only, answersOf}

-- what a step does to its part, and its answer, hang on that part alone
pub record Framed (S E W A R : Type 0) (part : E → ℕ) (step : E → S → S) (answer : E → S → A)
    (Ok : S → Type 0) (view : ℕ → S → W) (rest : S → R) : Type 0 where
  pub kept : (e : E) (s : S) → Ok s → Ok (step e s)
  pub own : (e : E) (s t : S) → Ok s → Ok t → view (part e) s ≡ view (part e) t
      → view (part e) (step e s) ≡ view (part e) (step e t)
  pub other : (e : E) (p : ℕ) (s : S) → Ok s → (part e ≡ p → ⊥) → view p (step e s) ≡ view p s
  pub still : (e : E) (s : S) → Ok s → rest (step e s) ≡ rest s
  pub answered : (e : E) (s t : S) → Ok s → Ok t → view (part e) s ≡ view (part e) t → answer e s ≡ answer e t
  pub whole : (s t : S) → Ok s → Ok t → rest s ≡ rest t → ((p : ℕ) → view p s ≡ view p t) → s ≡ t

module _ {S E W A R : Type 0} {part : E → ℕ} {step : E → S → S} {answer : E → S → A}
    {Ok : S → Type 0} {view : ℕ → S → W} {rest : S → R} (F : Framed S E W A R part step answer Ok view rest) where
  run_ok : (es : List E) (s : S) → Ok s → Ok (run step es s)
  unfolding run
  run_ok [] s h = h
  run_ok (e ∷ es) s h = run_ok es (step e s) (F.kept e s h)

  run_rest : (es : List E) (s : S) → Ok s → rest (run step es s) ≡ rest s
  unfolding run
  run_rest [] s h = refl
  run_rest (e ∷ es) s h = run_rest es (step e s) (F.kept e s h) ∙ F.still e s h

  own_at : (e : E) (p : ℕ) (s t : S) → Ok s → Ok t → part e ≡ p → view p s ≡ view p t → view p (step e s) ≡ view p (step e t)
  own_at e p s t h k q v = rw q at (F.own e s t h k (rw q v))

  answer_at : (e : E) (p : ℕ) (s t : S) → Ok s → Ok t → part e ≡ p → view p s ≡ view p t → answer e s ≡ answer e t
  answer_at e p s t h k q v = F.answered e s t h k (rw q v)

  -- each part runs as if its events were the only ones, and is answered so
  abbrev Alone : List E → ℕ → S → List E → S → Type 0
  Alone es p s fs t =
      (view p (run step es s) ≡ view p (run step fs t)) × (answersOf part step answer p es s ≡ answersOf part step answer p fs t)

  one : (e : E) (es : List E) (p : ℕ) (s t : S) → Ok s → Ok t → view p s ≡ view p t
      → ((u v : S) → Ok u → Ok v → view p u ≡ view p v → Alone es p u (only part p es) v)
      → (b : Bool) → eqb (part e) p ≡ b → Alone (e ∷ es) p s (cond b (e ∷ only part p es) (only part p es)) t
  unfolding run answersOf
  one e es p s t h k v next true q =
      let i = eqb-true (part e) p q in
      let o = next (step e s) (step e t) (F.kept e s h) (F.kept e t k) (own_at e p s t h k i v) in
      (o.0, rw (q, answer_at e p s t h k i v, o.1))
  one e es p s t h k v next false q =
      let o = next (step e s) t (F.kept e s h) k (F.other e p s h (eqb-false (part e) p q) ∙ v) in
      (o.0, rw q o.1)

  alone : (es : List E) (p : ℕ) (s t : S) → Ok s → Ok t → view p s ≡ view p t → Alone es p s (only part p es) t
  unfolding only
  alone [] p s t h k v = unfold run answersOf in (v, refl)
  alone (e ∷ es) p s t h k v = one e es p s t h k v (λ u w a b c. alone es p u w a b c) (eqb (part e) p) refl

  -- two orders of the same events that keep each part's own order
  module _ (es fs : List E) (s : S) (h : Ok s) (k : (p : ℕ) → only part p es ≡ only part p fs) where
    as_one : (p : ℕ) → Alone es p s fs s
    as_one p =
        let a = alone es p s s h h refl in
        let b = alone fs p s s h h refl in (
          a.0 ∙ ap (λ (l : List E). view p (run step l s)) (k p) ∙ sym b.0,
          a.1 ∙ ap (λ (l : List E). answersOf part step answer p l s) (k p) ∙ sym b.1,
        )

    pub same_state : run step es s ≡ run step fs s
    same_state =
        F.whole (run step es s) (run step fs s) (run_ok es s h) (run_ok fs s h)
        (run_rest es s h ∙ sym (run_rest fs s h)) (λ p. (as_one p).0)

    pub same_answers : (p : ℕ) → answersOf part step answer p es s ≡ answersOf part step answer p fs s
    same_answers p = (as_one p).1
