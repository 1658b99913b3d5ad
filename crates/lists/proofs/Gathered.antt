-- What numbers that were or'ed say together: all of them are below a power of 2, or one is not.
use Rattle.std.proofs.Common.{◌≡◌, ℕ, ◌+◌, ◌^◌, ◌<◌, ◌≤◌, Bool, true, ◌&&◌, ltb, List, [], ◌∷◌, fold, length, get_or, drop, sym, refl, ap, ◌∙◌, add-one, drop_of_length-le, drop-cons}
use lib.Bits.{bit_or}
use Rattle.word.specs.Lists.{every}
use Rattle.word.proofs.Cases.{and_assoc, and_left, and_right, and_true}
use Rattle.word.proofs.Range.{or_below}
use Rattle.lists.specs.declared.Table.{Table}
use Rattle.lists.specs.Obey.{no_table}
use Rattle.lists.specs.HowTaking.{Gathered}

abbrev below : ℕ → ℕ → Bool
below n x = ltb x (2 ^ n)

-- ---- plain numbers
pub ored_below : (n a : ℕ) (l : List ℕ) → below n (fold bit_or a l) ≡ (below n a && every (below n) l)
unfolding every
ored_below n a [] = sym (and_true (below n a))
ored_below n a (x ∷ l) = ored_below n (bit_or a x) l ∙ rw (or_below n a x) (and_assoc (below n a) (below n x) (every (below n) l))

-- ---- the numbers of tables: the loop, and what it says
module _ (P : Table → ℕ → Type 0) where
  pub gathered_more : (ts : List Table) (k any : ℕ) (t : Table) (s r : ℕ) → k < length ts → t ≡ get_or ts k no_table → P t s
      → Gathered P (bit_or any s) (drop (k + 1) ts) r → Gathered P any (drop k ts) r
  unfolding Gathered
  gathered_more ts k any t s r h e p g = rw (drop-cons ts k no_table h, ← e) (s, p, rw add-one at g)

  pub gathered_end : (ts : List Table) (k any : ℕ) → length ts ≤ k → Gathered P any (drop k ts) any
  unfolding Gathered
  gathered_end ts k any h = rw (drop_of_length-le ts h) refl

  -- where P puts the number of a table that f admits below the power just if g holds of the table
  pub gathered_says : (n : ℕ) (f g : Table → Bool) → ((t : Table) (s : ℕ) → f t ≡ true → P t s → below n s ≡ g t)
      → (any : ℕ) (ts : List Table) (r : ℕ) → every f ts ≡ true → Gathered P any ts r
      → below n r ≡ (below n any && every g ts)
  unfolding Gathered every
  gathered_says n f g h any [] r q e = ap (below n) e ∙ sym (and_true (below n any))
  gathered_says n f g h any (t ∷ ts) r q (s, p, e) =
      gathered_says n f g h (bit_or any s) ts r (and_right (f t) _ q) e
      ∙ rw (or_below n any s, h t s (and_left (f t) _ q) p) (and_assoc (below n any) (g t) (every g ts))
