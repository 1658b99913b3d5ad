-- Who holds how many places, counted from the grants and releases since the desk was last made, not from the desk's numbers: "Say F
-- places are free and H rooms hold none".
use Rattle.std.specs.Prelude.{ℕ, zero, suc, ◌+◌, ◌-◌, Bool, true, false, cond, ◌&&◌, List, [], ◌∷◌, set, eqb}
use Rattle.word.specs.Limits.{room_count, place_count}
use Rattle.rooms.specs.Rooms.{all_free}
use Rattle.layout.specs.Layout.{core_length, map_numbers}
use Rattle.calls.specs.declared.Answer.{Answer}
use Rattle.calls.specs.declared.Answer.TheVariants.{Refused, Made, Opened, More, Done, Released}
use Rattle.demands.specs.History.{Call, Told, is_made, is_released}
use Rattle.demands.specs.History.Call.{Make, Open, Feed, Release}

-- what comes of w through the calls that were told, each by its answer
unfoldable pub through : {A : Type 0} → (A → Call → Answer → A) → A → List Told → A
through step w [] = w
through step w (t ∷ ts) = through step (step w t.call t.answer) ts

abbrev pub is_opened : Answer → Bool
is_opened (Refused f) = false
is_opened Made = false
is_opened (Opened p) = true
is_opened More = false
is_opened (Done a) = false
is_opened Released = false

-- what room r holds after a call, if it held n places before: `opened` adds one, `released` takes one, and on a new desk it holds
-- none. That no release is lost where it holds none already is `freed` of PlacesGiven.
abbrev pub held_then : ℕ → ℕ → Call → Answer → ℕ
held_then r n (Make k m) answer = cond (is_made answer) 0 n
held_then r n (Open q area ios tables) answer = cond (is_opened answer && eqb q r) (n + 1) n
held_then r n (Feed q p block) answer = n
held_then r n (Release k q p) answer = cond (is_released answer && eqb q r) (n - 1) n

-- how many places room r holds, where nobody held one before
abbrev pub held_by : ℕ → List Told → ℕ
held_by r ts = through (held_then r) 0 ts

-- how many the first n rooms hold, and how many of them hold none
unfoldable pub held_by_all : ℕ → List Told → ℕ
held_by_all zero ts = 0
held_by_all (suc r) ts = held_by_all r ts + held_by r ts

unfoldable pub none_of : ℕ → List Told → ℕ
none_of zero ts = 0
none_of (suc r) ts = none_of r ts + cond (eqb (held_by r ts) 0) 1 0

-- F and H
unfoldable pub free_places : List Told → ℕ
free_places ts = place_count - held_by_all room_count ts

unfoldable pub idle_rooms : List Told → ℕ
idle_rooms ts = none_of room_count ts

-- ---- who holds each place: room r by r + 1, nobody by 0. After a call, if l was before:
abbrev pub with_place : List ℕ → ℕ → Answer → List ℕ
with_place l q (Refused f) = l
with_place l q Made = l
with_place l q (Opened p) = set l p (q + 1)
with_place l q More = l
with_place l q (Done a) = l
with_place l q Released = l

abbrev pub holders_then : List ℕ → Call → Answer → List ℕ
holders_then l (Make n m) answer = cond (is_made answer) all_free l
holders_then l (Open q area ios tables) answer = with_place l q answer
holders_then l (Feed q p block) answer = l
holders_then l (Release n q p) answer = cond (is_released answer) (set l p 0) l

-- where nobody held one before
abbrev pub holders_by : List Told → List ℕ
holders_by ts = through holders_then all_free ts

-- ---- what the desk was last made with: the core length and the map
pub record MadeWith : Type 0 where
  pub core : ℕ
  pub map : List ℕ

-- after a call, if it was w before
abbrev pub made_then : MadeWith → Call → Answer → MadeWith
made_then w (Make n m) answer = cond (is_made answer) (record { core = n; map = m }) w
made_then w (Open q area ios tables) answer = w
made_then w (Feed q p block) answer = w
made_then w (Release n q p) answer = w

-- what the desk's numbers say of it
abbrev pub says_made : List ℕ → MadeWith
says_made d = record { core = core_length d; map = map_numbers d }
