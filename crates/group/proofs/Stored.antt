-- A core after stores: each number in it stood there before, or is a word, below 2^36.
use Prim.Native.Nat.{ℕ, ◌+◌, ◌-◌, ◌≤◌, ◌<◌}
use mathlib.Core.Path.{◌≡◌, refl, ap, ◌∙◌}
use mathlib.Core.Bool.{true}
use mathlib.Core.List.{List}
use mathlib.Core.Logic.{◌⊎◌, inl, inr, ⊎_elim}
use native.Mathlib.Omega.{arith}
use lib.ListN.{length, get_or, replicate, length-replicate, get_or-replicate}
use Rattle.word.specs.Lists.{every, splice, cleared}
use Rattle.word.specs.Word.{is_word}
use Rattle.word.proofs.Cases.{by-lt}
use Rattle.word.proofs.Says.{every-at}
use Rattle.word.proofs.Stretch.{get_d_splice_beside}
use Rattle.word.proofs.Lists.{get_d_splice_in}

abbrev pub StoredWords : List ℕ → List ℕ → Type 0
StoredWords core after = (j : ℕ) → (get_or after j 0 ≡ get_or core j 0) ⊎ (is_word (get_or after j 0) ≡ true)

pub stored-none : (core : List ℕ) → StoredWords core core
stored-none core j = inl refl

-- one store after another
pub stored-then : (a b c : List ℕ) → StoredWords a b → StoredWords b c → StoredWords a c
stored-then a b c h k j = ⊎_elim (λ e. ⊎_elim (λ d. inl (e ∙ d)) (λ d. inr (rw e d)) (h j)) (λ e. inr e) (k j)

module _ (core : List ℕ) (a : ℕ) where
  stored_by : (vs : List ℕ) → a + length vs ≤ length core → ((k : ℕ) → k < length vs → is_word (get_or vs k 0) ≡ true)
      → StoredWords core (splice core a vs)
  stored_by vs h w j =
      by-lt j a
      (λ l. inl (get_d_splice_beside core a vs j h (inl l)))
      (λ l. by-lt j (a + length vs)
      (λ g. let e : a + (j - a) ≡ j = omega arith in
      inr (ap is_word (rw e at (get_d_splice_in core a vs (j - a) (omega arith) h)) ∙ w (j - a) (omega arith)))
      (λ g. inl (get_d_splice_beside core a vs j h (inr g))))

  pub stored-splice : (vs : List ℕ) → a + length vs ≤ length core → every is_word vs ≡ true → StoredWords core (splice core a vs)
  stored-splice vs h w = stored_by vs h (λ k l. every-at is_word vs k l w)

  pub stored-cleared : (n : ℕ) → a + n ≤ length core → StoredWords core (cleared core a n)
  unfolding cleared
  stored-cleared n h =
      let e = length-replicate {A = ℕ} n 0 in
      stored_by (replicate n 0) (omega arith) (λ k l. ap is_word (get_or-replicate n k 0 0 (omega arith)))
