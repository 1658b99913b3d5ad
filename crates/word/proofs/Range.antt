-- Numbers or'ed together are below 2^n just when each of them is: for a loop that looks at all of them and tests once at the end.
use Prim.Native.Nat.{ℕ, suc, ◌+◌, ◌^◌, ◌≤◌, ◌<◌}
use mathlib.Core.Path.{◌≡◌, sym, ◌∙◌}
use mathlib.Core.Bool.{Bool, ◌&&◌}
use mathlib.Core.List.{List}
use native.Mathlib.Omega.{arith}
use native.Mathlib.Numerals.{add-one}
use lib.ListN.{length, get_or, drop, drop_of_length-le}
use lib.Seq.{drop-cons}
use lib.Bits.{bit_or, or_lt, or_add_and, or_comm, and_le_r}
use lib.Dec.{ltb}
use borrow.Author.Tests.{lt-ltb, le-ltb}
use Rattle.word.specs.Lists.{every}
use Rattle.word.proofs.Cases.{by-lt, and_assoc, and_true}

or_left : (a b : ℕ) → a ≤ bit_or a b
or_left a b = omega (arith, or_add_and a b, and_le_r a b)

or_right : (a b : ℕ) → b ≤ bit_or a b
or_right a b = rw (or_comm a b) (or_left b a)

-- the test of one number
abbrev pub is_below : ℕ → ℕ → Bool
is_below n w = ltb w (2 ^ n)

pub or_below : (n a b : ℕ) → is_below n (bit_or a b) ≡ (is_below n a && is_below n b)
or_below n a b =
    by-lt a (2 ^ n)
    (λ p. by-lt b (2 ^ n)
    (λ q. rw (lt-ltb (bit_or a b) (2 ^ n) (or_lt n a b p q), lt-ltb a (2 ^ n) p, lt-ltb b (2 ^ n) q))
    (λ q. rw (le-ltb (bit_or a b) (2 ^ n) (omega (arith, or_right a b)), lt-ltb a (2 ^ n) p, le-ltb b (2 ^ n) q)))
    (λ p. rw (le-ltb (bit_or a b) (2 ^ n) (omega (arith, or_left a b)), le-ltb a (2 ^ n) p))

-- the loop: what was or'ed so far and the rest decide
module _ (n : ℕ) (l : List ℕ) (any i : ℕ) where
  pub any_more : i < length l → every (is_below n) l ≡ (is_below n any && every (is_below n) (drop i l))
      → every (is_below n) l ≡ (is_below n (bit_or any (get_or l i 0)) && every (is_below n) (drop (i + 1) l))
  unfolding every
  any_more h q =
      q ∙ rw (drop-cons l i 0 h, add-one, or_below n any (get_or l i 0))
      (sym (and_assoc (is_below n any) (is_below n (get_or l i 0)) (every (is_below n) (drop (suc i) l))))

  pub any_end : length l ≤ i → every (is_below n) l ≡ (is_below n any && every (is_below n) (drop i l))
      → every (is_below n) l ≡ is_below n any
  unfolding every
  any_end h q = q ∙ rw (drop_of_length-le l h) (and_true (is_below n any))
