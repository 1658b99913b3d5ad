-- Two outcomes that meet one contract are equal.
use Prim.Native.Nat.{ℕ}
use mathlib.Core.Path.{◌≡◌, sym, ◌∙◌}
use mathlib.Core.List.{List}
use Rattle.calls.specs.declared.Answer.{Answer}
use Rattle.calls.specs.Outcome.{Outcome, Meets}

pub one_outcome : (o : Outcome) (a b : Answer) (d e core other : List ℕ) → Meets o a d core → Meets o b e other → (a ≡ b)
    × ((d ≡ e) × (core ≡ other))
one_outcome o a b d e core other p q =
    (p.told ∙ sym q.told, (p.desk_left ∙ sym q.desk_left, p.core-left ∙ sym q.core-left))
