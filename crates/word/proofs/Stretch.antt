-- A stretch of a list written number by number: what stands in it, and what stands outside.
use mathlib.Core.Path.{◌≡◌, sym, ◌∙◌}
use mathlib.Core.Bool.{Bool, true}
use mathlib.Core.List.{List, [], ◌∷◌, append_assoc}
use mathlib.Core.Logic.{◌⊎◌, inl, inr, ⊎_elim, ◌≢◌}
use Prim.Native.Nat.{ℕ, zero, suc, ◌+◌, ◌<◌, ◌≤◌}
use native.Mathlib.Omega.{arith}
use native.Mathlib.Numerals.{add-one}
use lib.ListN.{length, get_or, set, take, length-set, replicate, length-replicate}
use lib.Seq.{paste-zero, take-suc-set, drop-set-lt, get_or-set_other}
use Rattle.word.specs.Lists.{every, range, splice, cleared}
use Rattle.word.proofs.Cases.{and_left, and_right}
use Rattle.word.proofs.Says.{every-at, says_every}
use Rattle.word.proofs.Lists.{get_d_range, length-range-min, length-splice}

-- one number after another
pub splice-none : (l : List ℕ) (a : ℕ) → splice l a [] ≡ l
unfolding splice
splice-none l a = sym (paste-zero l a [])

pub splice-first : (l : List ℕ) (a v : ℕ) (vs : List ℕ) → a < length l → splice l a (v ∷ vs) ≡ splice (set l a v) (a + 1) vs
unfolding splice
splice-first l a v vs h =
    let e : a + suc (length vs) ≡ suc a + length vs = omega arith in
    rw (
      add-one a,
      take-suc-set l a v h,
      drop-set-lt (suc a + length vs) l a v (omega arith),
      append_assoc (take a l) (v ∷ [])
          (take (length vs) vs),
      e,
    )

pub length-cleared : (l : List ℕ) (a n : ℕ) → a + n ≤ length l → length (cleared l a n) ≡ length l
unfolding cleared
length-cleared l a n h = length-splice l a (replicate n 0) (rw length-replicate h)

-- a place outside the stretch of n numbers from place a on
abbrev pub Beside : ℕ → ℕ → ℕ → Type 0
Beside j a n = (j < a) ⊎ (a + n ≤ j)

pub get_d_splice_beside : (l : List ℕ) (a : ℕ) (vs : List ℕ) (j : ℕ) → a + length vs ≤ length l → Beside j a (length vs)
    → get_or (splice l a vs) j 0 ≡ get_or l j 0
get_d_splice_beside l a [] j h o = rw (splice-none l a)
get_d_splice_beside l a (v ∷ vs) j h o =
    rw (splice-first l a v vs (omega arith))
    (get_d_splice_beside (set l a v) (a + 1) vs j (rw length-set (omega arith)) (later o) ∙ get_or-set_other l a j v 0 (apart o))
  where
    later : Beside j a (suc (length vs)) → Beside j (a + 1) (length vs)
    later = ⊎_elim (λ b. inl (omega arith)) (λ b. inr (omega arith))

    apart : Beside j a (suc (length vs)) → j ≢ a
    apart = ⊎_elim (λ b. omega arith) (λ b. omega arith)

pub get_d_cleared_beside : (l : List ℕ) (a n j : ℕ) → a + n ≤ length l → Beside j a n → get_or (cleared l a n) j 0 ≡ get_or l j 0
unfolding cleared
get_d_cleared_beside l a n j h o = get_d_splice_beside l a (replicate n 0) j (rw length-replicate h) (rw length-replicate o)

-- what every number of a list passes
module _ (f : ℕ → Bool) where
  pub every_both : (x : ℕ) (xs : List ℕ) → f x ≡ true → every f xs ≡ true → every f (x ∷ xs) ≡ true
  unfolding every
  every_both x xs p q = rw (p, q)

  pub every_head : (x : ℕ) (xs : List ℕ) → every f (x ∷ xs) ≡ true → f x ≡ true
  unfolding every
  every_head x xs q = and_left (f x) (every f xs) q

  pub every_tail : (x : ℕ) (xs : List ℕ) → every f (x ∷ xs) ≡ true → every f xs ≡ true
  unfolding every
  every_tail x xs q = and_right (f x) (every f xs) q

  pub every_set : (l : List ℕ) (i v : ℕ) → f v ≡ true → every f l ≡ true → every f (set l i v) ≡ true
  every_set [] i v p q = q
  every_set (x ∷ xs) zero v p q = every_both v xs p (every_tail x xs q)
  every_set (x ∷ xs) (suc i) v p q = every_both x (set xs i v) (every_head x xs q) (every_set xs i v p (every_tail x xs q))

  pub every-range : (l : List ℕ) (a n : ℕ) → every f l ≡ true → every f (range l a n) ≡ true
  every-range l a n q =
      let m = length-range-min l a n in
      (says_every f (range l a n) {P = λ x. f x ≡ true} (λ x. record { fact = λ h. h; test = λ h. h })).test
      (λ i h. rw (get_d_range l a n i (omega arith)) (every-at f l (a + i) (omega arith) q))
