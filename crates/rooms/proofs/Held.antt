-- The places that are held, one by one: which comes next, and that those between are free.
use Prim.Native.Nat.{ℕ, zero, suc, ◌+◌, ◌≤◌, ◌<◌}
use mathlib.Core.Path.{◌≡◌, sym, ap, ◌∙◌}
use mathlib.Core.List.{List, [], ◌∷◌}
use native.Mathlib.Omega.{arith}
use native.Mathlib.Numerals.{add-one}
use lib.ListN.{length, get_or, take, drop, length-drop, drop_of_length-le}
use lib.Seq.{drop-cons}
use borrow.Author.Tests.{eq-eqb, ne_eqb}
use Rattle.word.specs.Lists.{range, splice}
use Rattle.word.proofs.Cases.{by-eq, by-lt}
use Rattle.word.proofs.Lists.{range-splice-same}
use Rattle.rooms.specs.Rooms.{held_places}

-- ---- what is left of a list, when it is known
pub drop-first : (ps : List ℕ) (n x : ℕ) (xs : List ℕ) → drop n ps ≡ x ∷ xs → (n < length ps)
    × ((get_or ps n 0 ≡ x) × (drop (suc n) ps ≡ xs))
drop-first ps n x xs q = by-lt n (length ps)
    (λ h. let e = sym (drop-cons ps n 0 h) ∙ q in (h, (ap (λ (l : List ℕ). get_or l 0 0) e, ap (λ (l : List ℕ). drop 1 l) e)))
    (λ h. absurd (omega (arith, ap length q, length-drop n ps)))

pub drop-none : (ps : List ℕ) (n : ℕ) → drop n ps ≡ [] → length ps ≤ n
drop-none ps n q = by-lt n (length ps) (λ h. absurd (omega (arith, ap length q, length-drop n ps))) (λ h. h)

-- ---- place p is free, or held, or there is none
module _ (l : List ℕ) (p : ℕ) where
  pub held_skip : p < length l → get_or l p 0 ≡ 0 → held_places p (drop p l) ≡ held_places (p + 1) (drop (p + 1) l)
  unfolding held_places
  held_skip h z = rw (drop-cons l p 0 h, eq-eqb (get_or l p 0) 0 z, add-one p)

  pub held-here : p < length l → (get_or l p 0 ≡ 0 → ⊥) → held_places p (drop p l) ≡ p ∷ held_places (p + 1) (drop (p + 1) l)
  unfolding held_places
  held-here h z = rw (drop-cons l p 0 h, ne_eqb (get_or l p 0) 0 z, add-one p)

  pub held_past : length l ≤ p → held_places p (drop p l) ≡ []
  unfolding held_places
  held_past h = rw (drop_of_length-le l h)

-- ---- the next held place from p on is k
pub record Next (l : List ℕ) (p k : ℕ) (ks : List ℕ) : Type 0 where
  pub low : p ≤ k
  pub inside : k < length l
  pub held : get_or l k 0 ≡ 0 → ⊥
  pub free : (q : ℕ) → p ≤ q → q < k → get_or l q 0 ≡ 0
  pub rest : ks ≡ held_places (k + 1) (drop (k + 1) l)

next_by : (l : List ℕ) (k : ℕ) (ks : List ℕ) (n p : ℕ) → length l ≤ p + n → k ∷ ks ≡ held_places p (drop p l) → Next l p k ks
next_by l k ks zero p h q = absurd (omega (arith, ap length (q ∙ held_past l p (omega arith))))
next_by l k ks (suc n) p h q = by-lt p (length l)
    (λ i. by-eq (get_or l p 0) 0
    (λ z. let r = next_by l k ks n (p + 1) (omega arith) (q ∙ held_skip l p i z) in record {
      low = omega (arith, r.low);
      inside = r.inside;
      held = r.held;
      free = λ o a b. by-eq o p (λ y. rw y z) (λ y. r.free o (omega arith) b);
      rest = r.rest;
    })
    (λ z. let e = q ∙ held-here l p i z in let s : k ≡ p = ap (λ (m : List ℕ). get_or m 0 0) e in record {
      low = omega arith;
      inside = omega arith;
      held = rw s z;
      free = λ o a b. absurd (omega arith);
      rest = rw s (ap (λ (m : List ℕ). drop 1 m) e);
    }))
    (λ i. absurd (omega (arith, ap length (q ∙ held_past l p i))))

pub held_next : (l : List ℕ) (p k : ℕ) (ks : List ℕ) → k ∷ ks ≡ held_places p (drop p l) → Next l p k ks
held_next l p k ks q = next_by l k ks (length l) p (omega arith) q

-- or none is, and all from p on are free
none_by : (l : List ℕ) (n p : ℕ) → length l ≤ p + n → [] ≡ held_places p (drop p l) → (q : ℕ) → p ≤ q → q < length l → get_or l q 0 ≡ 0
none_by l zero p h e q a b = absurd (omega arith)
none_by l (suc n) p h e q a b = by-eq (get_or l p 0) 0
    (λ z. by-eq q p (λ y. rw y z) (λ y. none_by l n (p + 1) (omega arith) (e ∙ held_skip l p (omega arith) z) q (omega arith) b))
    (λ z. absurd (omega (arith, ap length (e ∙ held-here l p (omega arith) z))))

pub held_none : (l : List ℕ) (p : ℕ) → [] ≡ held_places p (drop p l) → (q : ℕ) → p ≤ q → q < length l → get_or l q 0 ≡ 0
held_none l p e = none_by l (length l) p (omega arith) e

-- ---- no more are held than there are, and at the start of a list they are read back
held_most : (p : ℕ) (l : List ℕ) → length (held_places p l) ≤ length l
unfolding held_places
held_most p [] = omega arith
held_most p (a ∷ l) = by-eq a 0
    (λ z. rw (eq-eqb a 0 z) (omega (arith, held_most (p + 1) l)))
    (λ z. rw (ne_eqb a 0 z) (omega (arith, held_most (p + 1) l)))

module _ (l out : List ℕ) (n : ℕ) (e : n ≡ length (held_places 0 l)) (h : length l ≤ length out) where
  pub held_few : n ≤ length l
  held_few = omega (arith, held_most 0 l)

  pub held-lent : take n (splice out 0 (held_places 0 l)) ≡ held_places 0 l
  unfolding range
  held-lent = rw e (range-splice-same out 0 (held_places 0 l) (omega (arith, held_most 0 l)))
