-- A test of every element of a list says a fact of each place, and a test of every two elements a fact of each two places,
-- whatever the list is of.
use Prim.Native.Nat.{ℕ, zero, suc, ◌<◌}
use mathlib.Core.Path.{refl}
use mathlib.Core.Bool.{Bool}
use mathlib.Core.List.{List, [], ◌∷◌}
use native.Mathlib.Omega.{arith}
use lib.ListN.{length, get_or}
use Rattle.word.specs.Lists.{every, every_two}
use Rattle.word.specs.Runs.{Says}
use Rattle.word.proofs.Says.{says_and, says_as}

module _ {A : Type 0} (d : A) where
  -- what holds of the first element and of each place behind it holds of each place
  first-and-each : (P : A → Type 0) (x : A) (xs : List A) → P x × ((i : ℕ) → i < length xs → P (get_or xs i d))
      → (i : ℕ) → i < length (x ∷ xs) → P (get_or (x ∷ xs) i d)
  first-and-each P x xs p zero h = p.0
  first-and-each P x xs p (suc i) h = p.1 i (omega arith)

  pub says_each : (f : A → Bool) (P : A → Type 0) → ((x : A) → Says (f x) (P x))
      → (l : List A) → Says (every f l) ((i : ℕ) → i < length l → P (get_or l i d))
  unfolding every
  says_each f P s [] = record { fact = λ q i h. absurd (omega arith); test = λ g. refl }
  says_each f P s (x ∷ xs) =
      says_as (says_and (s x) (says_each f P s xs)) (first-and-each P x xs)
      (λ g. (g 0 (omega arith), λ i h. g (suc i) (omega arith)))

  -- the same of each two places, the earlier one first
  first-and_two : (P : A → A → Type 0) (x : A) (xs : List A)
      → ((j : ℕ) → j < length xs → P x (get_or xs j d)) × ((i j : ℕ) → i < j → j < length xs → P (get_or xs i d) (get_or xs j d))
      → (i j : ℕ) → i < j → j < length (x ∷ xs) → P (get_or (x ∷ xs) i d) (get_or (x ∷ xs) j d)
  first-and_two P x xs p i zero h k = absurd (omega arith)
  first-and_two P x xs p zero (suc j) h k = p.0 j (omega arith)
  first-and_two P x xs p (suc i) (suc j) h k = p.1 i j (omega arith) (omega arith)

  pub says_two : (f : A → A → Bool) (P : A → A → Type 0) → ((x y : A) → Says (f x y) (P x y))
      → (l : List A) → Says (every_two f l) ((i j : ℕ) → i < j → j < length l → P (get_or l i d) (get_or l j d))
  unfolding every_two
  says_two f P s [] = record { fact = λ q i j h k. absurd (omega arith); test = λ g. refl }
  says_two f P s (x ∷ xs) =
      says_as (says_and (says_each (f x) (P x) (s x) xs) (says_two f P s xs)) (first-and_two P x xs)
      (λ g. (λ j h. g 0 (suc j) (omega arith) (omega arith), λ i j h k. g (suc i) (suc j) (omega arith) (omega arith)))
