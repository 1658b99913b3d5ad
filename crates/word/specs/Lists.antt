-- Lists: a test of every element and of every pair, the first number that a test fails, a list by what stands at each place, and a
-- stretch of a list of numbers that is read or written.
use Rattle.std.specs.Prelude.{ℕ, zero, suc, ◌+◌, Bool, true, cond, ◌&&◌, List, [], ◌∷◌, ◌++◌, length, take, drop, replicate}

module _ {A : Type 0} where
  -- f holds of every element
  unfoldable pub every : (A → Bool) → List A → Bool
  every f [] = true
  every f (x ∷ xs) = f x && every f xs

  -- f holds of every two elements, the earlier one first
  unfoldable pub every_two : (A → A → Bool) → List A → Bool
  every_two f [] = true
  every_two f (x ∷ xs) = every (f x) xs && every_two f xs

  -- f of 0, 1, 2 and so on, n elements in all
  unfoldable pub tab : (ℕ → A) → ℕ → List A
  tab f zero = []
  tab f (suc n) = tab f n ++ (f n ∷ [])

-- the first of the numbers 0, 1, 2 up to n that the test f fails; n where it fails none below
unfoldable pub first_not : (ℕ → Bool) → ℕ → ℕ
first_not f zero = zero
first_not f (suc n) = cond (f 0) (suc (first_not (λ i. f (suc i)) n)) zero

-- the n numbers from place a on
unfoldable pub range : List ℕ → ℕ → ℕ → List ℕ
range l a n = take n (drop a l)

-- the list l with vs in the place of as many numbers from place a on
unfoldable pub splice : List ℕ → ℕ → List ℕ → List ℕ
splice l a vs = take a l ++ take (length vs) vs ++ drop (a + length vs) l

-- the list l with n zeros from place a on
unfoldable pub cleared : List ℕ → ℕ → ℕ → List ℕ
cleared l a n = splice l a (replicate n 0)
