-- Making a desk: "A fresh desk is made from the core length and a map .. Making a desk writes no core word." Refusals 1 (length
-- only), 2 and 3, in that order.
use Rattle.std.specs.Prelude.{ℕ, zero, suc, List, [], ◌∷◌, length, set, eqb}
use Rattle.word.specs.Lists.{splice}
use Rattle.word.specs.Limits.{place_count, map_words}
use Rattle.word.specs.Fault.{unless}
use Rattle.map.specs.Map.{map_of, map_obeys}
use Rattle.layout.specs.Layout.{desk_words, base}
use Rattle.desk.specs.Sound.{core_fits}
use Rattle.calls.specs.declared.Answer.TheVariants.{Made}
use Rattle.calls.specs.Outcome.{Outcome, refused}

-- the first n places free
unfoldable pub freed : ℕ → List ℕ → List ℕ
freed zero d = d
freed (suc p) d = set (freed p d) (base p) 0

-- the core length and the map's numbers, and every place free; the rest is as it was
unfoldable pub fresh_desk : List ℕ → ℕ → List ℕ → List ℕ
fresh_desk d n m = freed place_count (splice d 0 (n ∷ m))

unfoldable pub make_of : List ℕ → ℕ → List ℕ → Outcome
make_of d n m =
    unless (eqb (length d) desk_words) (refused 1 d [])
    (unless (core_fits n) (refused 2 d [])
    (unless (eqb (length m) map_words) (refused 3 d [])
    (unless (map_obeys n (map_of m)) (refused 3 d [])
    (record { answer = Made; desk = fresh_desk d n m; core = [] }))))
