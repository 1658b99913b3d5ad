-- std's test of all elements is `every`.
use Rattle.std.proofs.Common.{◌≡◌, Bool, List, refl}
use Rattle.std.specs.List.{list_all}
use Rattle.std.proofs.lemmas.List.Recursion.{same_from_clauses}
use mathlib.Core.Bool.{◌&&◌}
use Rattle.word.specs.Lists.{every}

pub every_is : {A : Type 0} (f : A → Bool) (l : List A) → list_all f l ≡ every f l
unfolding every
every_is f l = same_from_clauses (list_all f) (every f) (λ x b. f x && b) refl (λ _ _. refl) (λ _ _. refl) l
