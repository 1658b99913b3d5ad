-- how the code goes, not a rule of 01
-- A map whose stretches stand in the order of their rooms, as the code looks at it first.
use Rattle.std.specs.Prelude.{ℕ, ◌+◌, Bool, true, cond, ◌&&◌, List, [], ◌∷◌, ◌==◌, nat_le}
use Rattle.map.specs.declared.Stretch.{Stretch}
use Rattle.map.specs.Map.{in_core}

-- each stretch lies in the core, and starts at or behind the end of those before it; an empty one may start before that
unfoldable pub in_order : ℕ → ℕ → List Stretch → Bool
in_order core end [] = true
in_order core end (s ∷ m) =
    in_core core s
    && cond (nat_le end s.start.0) (in_order core (s.start.0 + s.len) m) (s.len == 0 && in_order core end m)
