-- The first number that a test fails: it is the only one that the test fails and all before it pass, and below n it is one.
use Prim.Native.Nat.{ℕ, zero, suc, ◌≤◌, ◌<◌}
use mathlib.Core.Path.{◌≡◌, refl, ap}
use mathlib.Core.Bool.{Bool, true, false}
use native.Mathlib.Omega.{arith}
use Rattle.word.specs.Lists.{first_not}
use Rattle.word.proofs.Cases.{by-lt, both, when}

-- every number below n passes the test
abbrev pub AllBelow : (ℕ → Bool) → ℕ → Type 0
AllBelow f n = (i : ℕ) → i < n → f i ≡ true

pub below_none : (f : ℕ → Bool) → AllBelow f 0
below_none f i h = absurd (omega arith)

pub below_more : (f : ℕ → Bool) (n : ℕ) → AllBelow f n → f n ≡ true → AllBelow f (suc n)
below_more f n a q i h = by-lt i n (λ l. a i l) (λ l. let e : i ≡ n = omega arith in rw e q)

pub first_most : (f : ℕ → Bool) (n : ℕ) → first_not f n ≤ n
unfolding first_not
first_most f zero = omega arith
first_most f (suc n) = let k = first_most (λ i. f (suc i)) n in both (λ (m : ℕ). m ≤ suc n) (f 0) (omega arith) (omega arith)

pub first-all : (f : ℕ → Bool) (n : ℕ) → AllBelow f n → first_not f n ≡ n
unfolding first_not
first-all f zero a = refl
first-all f (suc n) a = rw (a 0 (omega arith)) (ap suc (first-all (λ i. f (suc i)) n (λ i h. a (suc i) (omega arith))))

-- at k, where all before pass
pub first-at : (f : ℕ → Bool) (n k : ℕ) → k < n → AllBelow f k → f k ≡ false → first_not f n ≡ k
unfolding first_not
first-at f zero k h a q = absurd (omega arith)
first-at f (suc n) zero h a q = rw q
first-at f (suc n) (suc k) h a q =
    rw (a 0 (omega arith)) (ap suc (first-at (λ i. f (suc i)) n k (omega arith) (λ i l. a (suc i) (omega arith)) q))

-- all before the first pass; and where it is below n it fails
pub first-before : (f : ℕ → Bool) (n : ℕ) → AllBelow f (first_not f n)
unfolding first_not
first-before f zero = λ i h. absurd (omega arith)
first-before f (suc n) = when (λ (m : ℕ). AllBelow f m) (f 0)
    (λ q. below_first f q (first-before (λ i. f (suc i)) n)) (λ q i h. absurd (omega arith))
  where
    below_first : (f : ℕ → Bool) {m : ℕ} → f 0 ≡ true → AllBelow (λ i. f (suc i)) m → AllBelow f (suc m)
    below_first f q a zero h = q
    below_first f q a (suc i) h = a i (omega arith)

pub first_fails : (f : ℕ → Bool) (n : ℕ) → first_not f n < n → f (first_not f n) ≡ false
unfolding first_not
first_fails f zero = λ h. absurd (omega arith)
first_fails f (suc n) = when (λ (m : ℕ). m < suc n → f m ≡ false) (f 0)
    (λ q h. first_fails (λ i. f (suc i)) n (omega arith)) (λ q h. q)
