-- An array that a loop fills with f of 0, 1, 2 and so on.
use Prim.Native.Nat.{ℕ, suc, ◌+◌, ◌<◌}
use mathlib.Core.Path.{◌≡◌, refl, sym, ap, ◌∙◌}
use mathlib.Core.List.{List, ◌++◌, append-nil}
use native.Mathlib.Omega.{arith}
use native.Mathlib.Numerals.{add-one}
use lib.ListN.{length, set, drop, drop_of_length-le}
use lib.Seq.{drop-cons, set_at, append_snoc}
use Rattle.word.specs.Lists.{tab}
use Rattle.word.proofs.Lists.{length-tab}

module _ {A : Type 0} (f : ℕ → A) (l : List A) where
  -- l with its first i elements filled
  unfoldable pub filled : ℕ → List A
  filled i = tab f i ++ drop i l

  pub filled_none : l ≡ filled 0
  unfolding filled tab
  filled_none = refl

  pub filled_more : (i : ℕ) (e : List A) (x : A) → i < length l → x ≡ f i → e ≡ filled i → set e i x ≡ filled (i + 1)
  unfolding filled tab
  filled_more i e x h w q =
      rw (q, w, add-one)
      (ap (λ (t : List A). set (tab f i ++ t) i (f i)) (drop-cons l i (f i) h)
      ∙ set_at (tab f i) _ (drop (suc i) l) (f i) i (length-tab f i)
      ∙ sym (append_snoc (tab f i) (f i) (drop (suc i) l)))

  pub filled-all : (n i : ℕ) (e : List A) → i ≡ n → length l ≡ n → e ≡ filled i → e ≡ tab f n
  unfolding filled
  filled-all n i e h k q = q ∙ rw (h, drop_of_length-le l {i = n} (omega arith)) (append-nil (tab f n))
