-- One part after another is an order that keeps each part's own.
use Prim.Native.Nat.{ℕ, zero, suc, ◌≤◌, ◌<◌}
use mathlib.Core.Path.{◌≡◌, refl, sym, ◌∙◌}
use mathlib.Core.List.{List, [], ◌∷◌, ◌++◌, append-nil}
use native.Mathlib.Omega.{arith}
use lib.Dec.{eqb}
use borrow.Author.Tests.{eq-eqb, ne_eqb}
use Rattle.word.proofs.Cases.{by-test, by-eq, by-lt}
use Rattle.demands.specs.Orders.{only, in_turn}

module _ {E : Type 0} (part : E → ℕ) where
  only_no : (e : E) (es : List E) (p : ℕ) → (part e ≡ p → ⊥) → only part p (e ∷ es) ≡ only part p es
  unfolding only
  only_no e es p q = rw (ne_eqb (part e) p q)

  only_append : (p : ℕ) (xs ys : List E) → only part p (xs ++ ys) ≡ only part p xs ++ only part p ys
  unfolding only
  only_append p [] ys = refl
  only_append p (e ∷ xs) ys =
      let ih = only_append p xs ys in
      by-test (eqb (part e) p) (λ q. simp (q, ih)) (λ q. simp (q, ih))

  only_same : (p : ℕ) (es : List E) → only part p (only part p es) ≡ only part p es
  unfolding only
  only_same p [] = refl
  only_same p (e ∷ es) =
      let ih = only_same p es in
      by-test (eqb (part e) p) (λ q. simp (q, ih)) (λ q. simp (q, ih))

  only_other : (p q : ℕ) (es : List E) → (p ≡ q → ⊥) → only part q (only part p es) ≡ []
  unfolding only
  only_other p q [] h = refl
  only_other p q (e ∷ es) h =
      let ih = only_other p q es h in
      by-eq (part e) p
      (λ k. rw (eq-eqb (part e) p k) (only_no e (only part p es) q (λ m. h (sym k ∙ m)) ∙ ih))
      (λ k. rw (ne_eqb (part e) p k) ih)

  in_turn_out : (n p : ℕ) (es : List E) → n ≤ p → only part p (in_turn part n es) ≡ []
  unfolding in_turn
  in_turn_out zero p es h = unfold only in refl
  in_turn_out (suc n) p es h =
      rw (only_append p (in_turn part n es) (only part n es), in_turn_out n p es (omega arith), only_other n p es (λ q. omega arith))

  in_turn_in : (n p : ℕ) (es : List E) → p < n → only part p (in_turn part n es) ≡ only part p es
  unfolding in_turn
  in_turn_in zero p es h = absurd (omega arith)
  in_turn_in (suc n) p es h =
      rw (only_append p (in_turn part n es) (only part n es))
      (by-eq p n
      (λ q. rw (q, in_turn_out n n es (omega arith), only_same n es))
      (λ q. rw (in_turn_in n p es (omega arith), only_other n p es (λ k. q (sym k)), append-nil)))

  -- where every event's part is below n
  module _ (n : ℕ) (below : (e : E) → part e < n) where
    only_none : (p : ℕ) (es : List E) → n ≤ p → only part p es ≡ []
    only_none p [] h = unfold only in refl
    only_none p (e ∷ es) h = only_no e es p (λ q. omega (arith, below e)) ∙ only_none p es h

    pub only_in_turn : (es : List E) (p : ℕ) → only part p es ≡ only part p (in_turn part n es)
    only_in_turn es p =
        by-lt p n (λ h. sym (in_turn_in n p es h))
        (λ h. only_none p es h ∙ sym (in_turn_out n p es h))
