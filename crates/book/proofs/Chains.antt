-- The library's words for a test of every element, in which its chains of iterators end.
use Prim.Native.Nat.{ℕ}
use mathlib.Core.Path.{◌≡◌, refl, sym, ap, ◌∙◌}
use mathlib.Core.Bool.{Bool, not, ◌&&◌}
use mathlib.Core.List.{List, [], ◌∷◌}
use lib.Dec.{eqb}
use Rattle.std.specs.List.{list_all, list_any, range_with_len}
use Rattle.std.proofs.lemmas.List.Folds.{list_all-map}
use Rattle.std.proofs.lemmas.List.FromFn.{fill_by_all}
use Rattle.word.specs.Lists.{every, tab}
use Rattle.word.proofs.Cases.{by-test}
use Rattle.word.proofs.Lists.{length-tab, get_d_tab}
use Rattle.book.specs.HowKept.{is_mark}

module _ {A : Type 0} (f : A → Bool) where
  pub every-all : (xs : List A) → list_all f xs ≡ every f xs
  unfolding every
  every-all [] = refl
  every-all (x ∷ xs) = ap (λ b. f x && b) (every-all xs)

  -- of what g gives of 0, 1, 2 and so on
  pub every-range : (g : ℕ → A) (n : ℕ) (d : A) → list_all (λ i. f (g i)) (range_with_len 0 n) ≡ every f (tab g n)
  every-range g n d =
      sym (list_all-map f g (range_with_len 0 n))
      ∙ ap (list_all f) (sym (fill_by_all g (tab g n) n d (length-tab g n) (λ k h. get_d_tab g n k d h)))
      ∙ every-all (tab g n)

pub none_zero : (ms : List ℕ) → not (list_any (λ m. eqb m 0) ms) ≡ every is_mark ms
unfolding every
none_zero [] = refl
none_zero (m ∷ ms) = by-test (eqb m 0)
    (λ q. rw q)
    (λ q. rw q (none_zero ms))
