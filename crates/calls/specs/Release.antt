-- "Release takes room and place, frees the place and its area, which serve again, and writes no core word." Refusals 1, 2, 4 and 9.
use Rattle.std.specs.Prelude.{ℕ, List, [], set}
use Rattle.word.specs.Fault.{unless}
use Rattle.layout.specs.Layout.{base, holds}
use Rattle.calls.specs.declared.Answer.TheVariants.{Released}
use Rattle.calls.specs.Outcome.{Outcome, refused}
use Rattle.calls.specs.Entry.{entered}

-- n is the core length that is given
unfoldable pub release_of : List ℕ → ℕ → ℕ → ℕ → Outcome
release_of d n r p =
    entered d n r []
    (unless (holds d r p) (refused 9 d [])
    (record { answer = Released; desk = set d (base p) 0; core = [] }))
