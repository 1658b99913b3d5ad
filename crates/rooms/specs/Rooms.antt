-- Who holds the twelve places, and when a room is given one (01, "The desk" and refusals 5 and 6). The holders are a list of
-- numbers, one for each place: 0 where it is free, r + 1 where room r holds it.
use Rattle.std.specs.Prelude.{ℕ, ◌+◌, ◌≤◌, ◌<◌, ◌≡◌, Bool, cond, ◌&&◌, List, [], ◌∷◌, length, get_or, replicate, leb, eqb}
use Rattle.word.specs.Lists.{every, tab}
use Rattle.word.specs.Limits.{room_count, place_count}

-- "no room holds over two"
abbrev pub most_held : ℕ
most_held = 2

-- 1 where the two are the same, else 0; and so how often x stands in a list
unfoldable pub hit : ℕ → ℕ → ℕ
hit a x = cond (eqb a x) 1 0

unfoldable pub count : ℕ → List ℕ → ℕ
count x [] = 0
count x (a ∷ l) = hit a x + count x l

-- "Say F places are free"
unfoldable pub free : List ℕ → ℕ
free l = count 0 l

-- how many places room r holds, and how many each of the eight
unfoldable pub held : ℕ → List ℕ → ℕ
held r l = count (r + 1) l

unfoldable pub held_each : List ℕ → List ℕ
held_each l = tab (λ r. held r l) room_count

-- "and H rooms hold none"
unfoldable pub idle : List ℕ → ℕ
idle l = count 0 (held_each l)

-- a number is at most m
unfoldable pub at_most : ℕ → ℕ → Bool
at_most m n = leb n m

-- "F is at least H, no room holds over two", and each holder is a room's or none
unfoldable pub fair : List ℕ → Bool
fair l = every (at_most room_count) l && (every (at_most most_held) (held_each l) && leb (idle l) (free l))

-- the same as facts, of the twelve places and the eight rooms
pub record Fair (l : List ℕ) : Type 0 where
  pub twelve : length l ≡ place_count
  pub known : (p : ℕ) → p < place_count → get_or l p 0 ≤ room_count
  pub two : (r : ℕ) → r < room_count → held r l ≤ most_held
  pub enough : idle l ≤ free l

-- the places that are held, lowest first, where the list's first holder is of place p
unfoldable pub held_places : ℕ → List ℕ → List ℕ
held_places p [] = []
held_places p (a ∷ l) = cond (eqb a 0) (held_places (p + 1) l) (p ∷ held_places (p + 1) l)

-- the holders of a fresh desk
abbrev pub all_free : List ℕ
all_free = replicate place_count 0

-- "the lowest free place"; the length where none is free
unfoldable pub lowest_free : List ℕ → ℕ
lowest_free [] = 0
lowest_free (a ∷ l) = cond (eqb a 0) 0 (lowest_free l + 1)

-- Refusals: 5 "room holds two", 6 "room holds one and F is not greater than H"; 0 where the room is given a place.
unfoldable pub place_refusal : ℕ → List ℕ → ℕ
place_refusal r l =
    cond (leb most_held (held r l)) 5
    (cond (eqb (held r l) 1) (cond (leb (free l) (idle l)) 6 0) 0)
