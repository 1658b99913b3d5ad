-- A test of every element says the test of each place, and a test of every two that of each two places; and the other way round.
use Prim.Native.Nat.{ℕ, zero, suc, ◌<◌}
use mathlib.Core.Path.{◌≡◌, refl}
use mathlib.Core.Bool.{Bool, true}
use mathlib.Core.List.{List, [], ◌∷◌}
use native.Mathlib.Omega.{arith}
use lib.ListN.{length, get_or}
use Rattle.word.specs.Lists.{every, every_two}
use Rattle.word.proofs.Cases.{and_both, and_left, and_right}

module _ {A : Type 0} (d : A) where
  module _ (f : A → Bool) where
    pub every-place : (l : List A) (i : ℕ) → i < length l → every f l ≡ true → f (get_or l i d) ≡ true
    unfolding every
    every-place [] i h q = absurd (omega arith)
    every-place (x ∷ xs) zero h q = and_left (f x) (every f xs) q
    every-place (x ∷ xs) (suc i) h q = every-place xs i (omega arith) (and_right (f x) (every f xs) q)

    pub every_by : (l : List A) → ((i : ℕ) → i < length l → f (get_or l i d) ≡ true) → every f l ≡ true
    unfolding every
    every_by [] h = refl
    every_by (x ∷ xs) h = and_both (f x) (every f xs) (h 0 (omega arith)) (every_by xs (λ i k. h (suc i) (omega arith)))

  pub two_by : (f : A → A → Bool) (l : List A) → ((i j : ℕ) → i < j → j < length l → f (get_or l i d) (get_or l j d) ≡ true)
      → every_two f l ≡ true
  unfolding every_two
  two_by f [] h = refl
  two_by f (x ∷ xs) h =
      and_both (every (f x) xs) (every_two f xs)
      (every_by (f x) xs (λ j k. h 0 (suc j) (omega arith) (omega arith)))
      (two_by f xs (λ i j l k. h (suc i) (suc j) (omega arith) (omega arith)))

-- what follows for each element follows for all
pub every-then : {A : Type 0} (f g : A → Bool) → ((x : A) → f x ≡ true → g x ≡ true) → (l : List A) → every f l ≡ true
    → every g l ≡ true
unfolding every
every-then f g h [] q = refl
every-then f g h (x ∷ xs) q =
    and_both (g x) (every g xs) (h x (and_left (f x) (every f xs) q)) (every-then f g h xs (and_right (f x) (every f xs) q))
