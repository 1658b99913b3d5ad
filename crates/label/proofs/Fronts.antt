-- The front of a list and one element more: what is tested of each element, of which there are j in front.
use Prim.Native.Nat.{ℕ, zero, suc, ◌<◌}
use mathlib.Core.Path.{◌≡◌, sym, ap, ◌∙◌}
use mathlib.Core.Bool.{Bool, ◌&&◌}
use mathlib.Core.List.{List, [], ◌∷◌}
use native.Mathlib.Omega.{arith}
use lib.ListN.{length, get_or, take}
use Rattle.word.specs.Lists.{every}
use Rattle.word.proofs.Cases.{and_assoc, and_true}

pub every_front : {A : Type 0} (f : A → Bool) (d : A) (l : List A) (j : ℕ) → j < length l
    → every f (take (suc j) l) ≡ (every f (take j l) && f (get_or l j d))
unfolding every
every_front f d [] j h = absurd (omega arith)
every_front f d (x ∷ xs) zero h = and_true (f x)
every_front f d (x ∷ xs) (suc j) h =
    ap (λ (b : Bool). f x && b) (every_front f d xs j (omega arith))
    ∙ sym (and_assoc (f x) (every f (take j xs)) (f (get_or xs j d)))
