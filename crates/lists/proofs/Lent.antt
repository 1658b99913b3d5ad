-- The tables of a lent list, by their places.
use Rattle.std.proofs.Common.{◌≡◌, ℕ, zero, suc, ◌+◌, ◌*◌, ◌/◌, ◌<◌, List, [], ◌∷◌, length, get_or, refl, arith}
use Rattle.lists.specs.declared.Table.{Table}
use Rattle.lists.specs.Obey.{tables_of, no_table}

pub lent_length : (l : List ℕ) → length (tables_of l) ≡ length l / 2
unfolding tables_of
lent_length [] = refl
lent_length (a ∷ []) = refl
lent_length (a ∷ n ∷ l) = let e = lent_length l in omega arith

-- table k is the pair at places 2 k and 2 k + 1
abbrev pub pair_at : List ℕ → ℕ → Table
pair_at l k = record { at = record { 0 = get_or l (2 * k) 0 }; len = get_or l (2 * k + 1) 0 }

pub lent_at : (l : List ℕ) (k : ℕ) → k < length l / 2 → get_or (tables_of l) k no_table ≡ pair_at l k
unfolding tables_of
lent_at [] k h = absurd (omega arith)
lent_at (a ∷ []) k h = absurd (omega arith)
lent_at (a ∷ n ∷ l) zero h = refl
lent_at (a ∷ n ∷ l) (suc k) h =
    let e : 2 * suc k ≡ suc (suc (2 * k)) = omega arith in
    let f : suc (suc (2 * k)) + 1 ≡ suc (suc (2 * k + 1)) = omega arith in
    rw (e, f) (lent_at l k (omega arith))
