-- Refusals 1, 2 and 4: open, feed and release test them first, and alike.
use Rattle.std.specs.Prelude.{ℕ, ◌<◌, ◌≡◌, true, List, eqb, ltb}
use Rattle.word.specs.Limits.{room_count}
use Rattle.word.specs.Fault.{unless}
use Rattle.layout.specs.Layout.{core_length}
use Rattle.desk.specs.Sound.{sound}
use Rattle.calls.specs.Outcome.{Outcome, refused}

-- which of the three is due, in 01's order; 0 where none is. n is the length of the core that is lent, or the length that is
-- given: a sound desk's is from 1 to 65,536, so one test tells all of 2
unfoldable pub entry_refusal : List ℕ → ℕ → ℕ → ℕ
entry_refusal d n r =
    unless (sound d) 1
    (unless (eqb n (core_length d)) 2
    (unless (ltb r room_count) 4
    0))

-- that refusal; where none is due, what comes after them
unfoldable pub entered : List ℕ → ℕ → ℕ → List ℕ → Outcome → Outcome
entered d n r core rest = unless (eqb (entry_refusal d n r) 0) (refused (entry_refusal d n r) d core) rest

-- what is known where none of the three is due
pub record Entered (d : List ℕ) (n r : ℕ) : Type 0 where
  pub desk : sound d ≡ true
  pub core : n ≡ core_length d
  pub room : r < room_count
