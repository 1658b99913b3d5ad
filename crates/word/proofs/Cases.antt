-- Case distinctions on a test, and what a chain of tests says.
use mathlib.Core.Path.{◌≡◌, refl, sym, ◌∙◌}
use mathlib.Core.Bool.{Bool, true, false, cond, not, ◌&&◌, ◌||◌, false≢true}
use mathlib.Core.Logic.{◌↔◌}
use Prim.Native.Nat.{ℕ, suc, ◌≤◌, ◌<◌}
use native.Mathlib.Omega.{arith}
use lib.Dec.{ltb, leb, eqb}
use borrow.Author.Tests.{eqb-true, eqb-false, ltb-true, ltb-false, leb-true, leb-false, le-leb}

pub by-test {ℓ} : {X : Type ℓ} (b : Bool) → (b ≡ true → X) → (b ≡ false → X) → X
by-test true f g = f refl
by-test false f g = g refl

pub by-eq {ℓ} : {X : Type ℓ} (a b : ℕ) → (a ≡ b → X) → ((a ≡ b → ⊥) → X) → X
by-eq a b f g = by-test (eqb a b) (λ q. f (eqb-true a b q)) (λ q. g (eqb-false a b q))

pub by-lt {ℓ} : {X : Type ℓ} (a b : ℕ) → (a < b → X) → (b ≤ a → X) → X
by-lt a b f g = by-test (ltb a b) (λ q. f (ltb-true a b q)) (λ q. g (ltb-false a b q))

-- what holds of both branches holds of the choice; `when` also knows the test
pub both {ℓ ℓ'} : {X : Type ℓ} (P : X → Type ℓ') (b : Bool) {x y : X} → P x → P y → P (cond b x y)
both P true p q = p
both P false p q = q

pub when {ℓ ℓ'} : {X : Type ℓ} (P : X → Type ℓ') (b : Bool) {x y : X} → (b ≡ true → P x) → (b ≡ false → P y) → P (cond b x y)
when P true p q = p refl
when P false p q = q refl

pub and_left : (a b : Bool) → (a && b) ≡ true → a ≡ true
and_left true b q = refl
and_left false b q = q

pub and_right : (a b : Bool) → (a && b) ≡ true → b ≡ true
and_right true b q = q
and_right false b q = absurd (false≢true q)

pub and_both : (a b : Bool) → a ≡ true → b ≡ true → (a && b) ≡ true
and_both a b p q = rw (p, q)

pub and_assoc : (a b c : Bool) → ((a && b) && c) ≡ (a && (b && c))
and_assoc true b c = refl
and_assoc false b c = refl

pub and_true : (b : Bool) → (b && true) ≡ b
and_true true = refl
and_true false = refl

pub or-not : (a b : Bool) → (not a || b) ≡ true → a ≡ true → b ≡ true
or-not true b q h = q
or-not false b q h = absurd (false≢true h)

-- two tests of facts that say the same are the same test
pub leb_iff : (a b c d : ℕ) → ((a ≤ b) ↔ (c ≤ d)) → leb a b ≡ leb c d
leb_iff a b c d e = by-test (leb a b)
    (λ q. q ∙ sym (le-leb c d (e.0 (leb-true a b q))))
    (λ q. q ∙ sym (by-test (leb c d)
    (λ r. let h = e.1 (leb-true c d r) in let k = leb-false a b q in absurd (omega arith))
    (λ r. r)))

pub ltb_iff : (a b c d : ℕ) → ((a < b) ↔ (c < d)) → ltb a b ≡ ltb c d
ltb_iff a b c d e = leb_iff (suc a) b (suc c) d e
