-- What a call leaves, its answer packed, is what C gets back.
use Prim.Native.Nat.{ℕ}
use mathlib.Core.Path.{◌≡◌, ap, ◌∙◌}
use mathlib.Core.List.{List}
use Rattle.calls.specs.declared.Answer.{Answer}
use Rattle.calls.specs.Answer.{packed}
use Rattle.calls.specs.Outcome.{Outcome, Meets}
use Rattle.clamp.specs.Returned.{Returned}

pub packed_returned : (o : Outcome) (a : Answer) (r : ℕ) (desk core : List ℕ) → Meets o a desk core → r ≡ packed a
    → Returned o r desk core
packed_returned o a r desk core m e =
    record { number = e ∙ ap packed m.told; desk_left = m.desk_left; core-left = m.core-left }
