-- What the house holds the loader to, as statements. Each is a type; the theorem that it holds has its name in small letters
-- (proofs/Demands.antt). They speak of `make_of`, `open_of`, `feed_of` and `release_of`, which are the contracts of the four calls.
-- That they are not empty is stated beside the histories that show it: `NotEmpty` in Examples.antt.
use Rattle.std.specs.Prelude.{ℕ, ◌+◌, ◌≤◌, ◌<◌, ◌≡◌, true, false, List, [], ◌∷◌, ◌++◌, ◌⊎◌, length, get_or}
use Rattle.word.specs.Fault.{fault}
use Rattle.word.specs.Limits.{room_count, place_count}
use Rattle.word.specs.Word.{word_limit}
use Rattle.word.specs.declared.Absolute.{Absolute}
use Rattle.word.specs.declared.Area.{Area}
use Rattle.word.specs.declared.Fault.{Fault}
use Rattle.group.specs.Places.{Placed}
use Rattle.map.specs.Map.{map_of, none}
use Rattle.rooms.specs.Rooms.{lowest_free}
use Rattle.lists.specs.Obey.{lists_obey}
use Rattle.stage.specs.declared.Stage.TheVariants.{Broken}
use Rattle.layout.specs.Layout.{stage_at, lists_at, base, place_in, own_of, stage_in}
use Rattle.desk.specs.Sound.{area_in, sound}
use Rattle.calls.specs.Answer.{packed, told_c, Small}
use Rattle.calls.specs.declared.Answer.{Answer}
use Rattle.calls.specs.declared.Answer.TheVariants.{Refused, Made, Opened, Released}
use Rattle.calls.specs.Outcome.{Outcome}
use Rattle.clamp.specs.Returned.{Returned}
use Rattle.demands.specs.Image.{file_start}
use Rattle.demands.specs.Orders.{run, only, answersOf, in_turn}
use Rattle.demands.specs.History.{State, Call, answer_to, call, Event, lent, event, Told, told, taken, starts, answers_for}
use Rattle.demands.specs.History.{is_in}
use Rattle.demands.specs.History.Call.{Make, Open, Feed, Release}
use Rattle.demands.specs.Opening.{Opening, IsGranted, after_open, since, Stays, Unharmed, own_events, image_since, area_words}
use Rattle.demands.specs.Opening.{Asked, open_answer, Refuses}
use Rattle.demands.specs.Feeding.{Fed, feed, fed_answer, place_number, fed_events}
use Rattle.demands.specs.Grants.{held_by, free_places, idle_rooms, holders_by, through, MadeWith, made_then, says_made}

-- a core word outside an area
abbrev pub Outside : Area → ℕ → Type 0
Outside area j = is_in area j ≡ false

-- ---- Demand 1, of every call in every state. One outcome: "it is proved that two outcomes meeting it are equal". `Returned` is
-- the form of every exported contract.
abbrev pub Demand1One : Type 0
Demand1One =
    (o : Outcome) (r q : ℕ) (d e core other : List ℕ) → Returned o r d core → Returned o q e other
    → (r ≡ q) × ((d ≡ e) × (core ≡ other))

-- the number that C is told tells the answer, all of it but the bit of a fault: each call's answer is small, and two small answers
-- with one number are told as one
abbrev pub Demand1Number : Type 0
Demand1Number =
    ((c : Call) (s : State) → Small (answer_to c s))
    × ((a b : Answer) → Small a → Small b → packed a ≡ packed b → told_c a ≡ told_c b)

-- "Refusals 1 to 12 change nothing", and no call is refused with a number over its greatest one
abbrev pub most_of : Call → ℕ
most_of (Make n m) = 3
most_of (Open r area ios tables) = 8
most_of (Feed r p block) = 22
most_of (Release n r p) = 9

abbrev pub Demand1Unchanged : Type 0
Demand1Unchanged =
    (c : Call) (s : State) (f : Fault) → answer_to c s ≡ Refused f
    → (1 ≤ f.number) × (f.number ≤ most_of c) × (f.number ≤ 12 → call c s ≡ s)

-- "Refusals 13 to 22 set the whole area to zero and mark the load broken": nothing else changes, in the core or on the desk, where
-- the stage of place p is the nine numbers from base p + 6 on. The area is the one that open was given: `Demand2Area`.
pub record BrokenOff (p : ℕ) (area : Area) (s after : State) : Type 0 where
  pub inside : area.at.0 + area.size ≤ length s.core
  pub zeros : (j : ℕ) → area.at.0 ≤ j → j < area.at.0 + area.size → get_or after.core j 0 ≡ 0
  pub beside : (j : ℕ) → Outside area j → get_or after.core j 0 ≡ get_or s.core j 0
  pub core-long : length after.core ≡ length s.core
  pub stage : stage_in (place_in after.desk p) ≡ Broken
  pub others : (i : ℕ) → (base p + stage_at ≤ i → i < base p + lists_at → ⊥) → get_or after.desk i 0 ≡ get_or s.desk i 0
  pub desk_long : length after.desk ≡ length s.desk

abbrev pub Demand1Broken : Type 0
Demand1Broken =
    (s : State) (r p : ℕ) (block : List ℕ) (f : Fault) → answer_to (Feed r p block) s ≡ Refused f → 13 ≤ f.number
    → BrokenOff p (own_of (place_in s.desk p)).given.area s (call (Feed r p block) s)

-- the place of a refusal (02, #105). "Refusals 1 to 12 still return 0": no word, no half and no bit. Of 13 to 22 the word lies in
-- the block; a half is told for 19 to 21 and for no other, and then the word is a program word of one of this block's groups, and
-- the bit the one of that group's indicator bits at which the half's indicator starts (`Placed`). Which word it is, the definitions
-- say that say which refusal it is: the contract is one equation for both.
abbrev pub Demand1Place : Type 0
Demand1Place =
    ((c : Call) (s : State) (f : Fault) → answer_to c s ≡ Refused f → f.number ≤ 12 → f ≡ fault f.number)
    × ((s : State) (r p : ℕ) (block : List ℕ) (f : Fault) → answer_to (Feed r p block) s ≡ Refused f → 13 ≤ f.number
    → Placed block f)

-- "A fresh desk is sound, and each call keeps it so", whatever core it is lent. A made desk has the core length and the map that
-- make was given; no other call changes them, and none the length of the core.
pub record KeptSound (c : Call) (s : State) : Type 0 where
  pub kept : sound s.desk ≡ true → sound (call c s).desk ≡ true
  pub made_with : says_made (call c s).desk ≡ made_then (says_made s.desk) c (answer_to c s)
  pub core-long : length (call c s).core ≡ length s.core

abbrev pub Demand1Sound : Type 0
Demand1Sound =
    ((s : State) (n : ℕ) (m : List ℕ) → answer_to (Make n m) s ≡ Made → sound (call (Make n m) s).desk ≡ true)
    × ((c : Call) (s : State) → KeptSound c s)

-- no call reads a core word: lent another core of the same length, it gives the same answer and leaves the same desk
abbrev pub Demand1Blind : Type 0
Demand1Blind =
    (c : Call) (s : State) (other : List ℕ) → length other ≡ length s.core
    → (answer_to c (lent other s) ≡ answer_to c s) × ((call c (lent other s)).desk ≡ (call c s).desk)

-- every number that a call stores in the core is a word, below 2^36, whatever the core held
abbrev pub Demand1Words : Type 0
Demand1Words =
    (c : Call) (s : State) (j : ℕ) → (get_or (call c s).core j 0 ≡ get_or s.core j 0) ⊎ (get_or (call c s).core j 0 < word_limit)

-- ---- Demand 2. A load is opened in any state at all, and then anything happens that leaves it there and does it no harm. If it
-- was answered `done`, the area holds the image of the blocks that it accepted.
abbrev pub Demand2 : Type 0
Demand2 =
    (o : Opening) (es : List Event) (a : Absolute) (others : List Absolute) → IsGranted o → Stays o es → Unharmed o es
    → starts o.room o.place (since o es) ≡ a ∷ others
    → area_words o (run event es (after_open o)) ≡ image_since o es

-- before its first block the area is zeros
abbrev pub Demand2Zeros : Type 0
Demand2Zeros =
    (o : Opening) (k : ℕ) → IsGranted o → k < o.area.size → get_or (after_open o).core (o.area.at.0 + k) 0 ≡ 0

-- harm or not, the start is then the file's own, moved by the area's address, and it was answered so once
abbrev pub Demand2Start : Type 0
Demand2Start =
    (o : Opening) (es : List Event) (a : Absolute) (others : List Absolute) → IsGranted o → Stays o es
    → starts o.room o.place (since o es) ≡ a ∷ others
    → (a ≡ file_start o.area (taken o.room o.place (since o es))) × (others ≡ [])

-- nothing that happened made a difference to it, done or not: its feeds were answered, and its area is, as if they alone had come
abbrev pub Demand2Alone : Type 0
Demand2Alone =
    (o : Opening) (es : List Event) → IsGranted o → Stays o es → Unharmed o es
    → (answers_for o.room o.place (since o es) ≡ answers_for o.room o.place (since o (own_events o es)))
    × (area_words o (run event es (after_open o)) ≡ area_words o (run event (own_events o es) (after_open o)))

-- the desk says of the load's place what open was given, whatever happened, harm or not, as long as the load is there
abbrev pub Demand2Area : Type 0
Demand2Area =
    (o : Opening) (es : List Event) → IsGranted o → Stays o es
    → ((own_of (place_in (run event es (after_open o)).desk o.place)).given.area ≡ o.area)
    × ((own_of (place_in (run event es (after_open o)).desk o.place)).holder ≡ o.room + 1)

-- a load's own calls change no core word outside its area: open, its feeds, its release
abbrev pub Demand2Outside : Type 0
Demand2Outside =
    (s : State) (j : ℕ)
    → ((r : ℕ) (area : Area) (ios tables : List ℕ) → Outside area j
    → get_or (call (Open r area ios tables) s).core j 0 ≡ get_or s.core j 0)
    × ((r p : ℕ) (block : List ℕ) → Outside (own_of (place_in s.desk p)).given.area j
    → get_or (call (Feed r p block) s).core j 0 ≡ get_or s.core j 0)
    × ((n r p : ℕ) → (call (Release n r p) s).core ≡ s.core)

-- ---- Demand 3, of the feeds, in any state. Two orders that keep each load's own
abbrev pub SameForEach : List Fed → List Fed → Type 0
SameForEach es fs = (p : ℕ) → only place_number p es ≡ only place_number p fs

-- give the same desk and core, and each load the same answers
abbrev pub SameOutcome : State → List Fed → List Fed → Type 0
SameOutcome s es fs =
    (run feed es s ≡ run feed fs s)
    × ((p : ℕ) → answersOf place_number feed fed_answer p es s ≡ answersOf place_number feed fed_answer p fs s)

abbrev pub Demand3Orders : Type 0
Demand3Orders = (s : State) (es fs : List Fed) → SameForEach es fs → SameOutcome s es fs

-- and so does one load after another
abbrev pub Demand3Turns : Type 0
Demand3Turns = (s : State) (es : List Fed) → SameOutcome s es (in_turn place_number (place_count + 1) es)

-- "Demand 3 speaks of demand 2's images": a load is opened, anything happens that does it no harm, and then feeds of any loads
-- come. If it was answered `done`, its area holds its image also where the feeds come in another order that keeps each load's own.
abbrev pub Demand3Images : Type 0
Demand3Images =
    (o : Opening) (between : List Event) (es fs : List Fed) (a : Absolute) (others : List Absolute)
    → IsGranted o → Stays o (between ++ fed_events es) → Unharmed o between
    → starts o.room o.place (since o (between ++ fed_events es)) ≡ a ∷ others
    → SameForEach es fs
    → area_words o (run event (between ++ fed_events fs) (after_open o)) ≡ image_since o (between ++ fed_events es)

-- ---- Demand 3, of the rooms: what open answers to room r, whatever area, lists and core it comes with. F and H are counted from
-- the grants and releases since the desk was last made; w is what it was made with.
pub record PlacesGiven (ts : List Told) (w : MadeWith) (desk : List ℕ) (r : ℕ) : Type 0 where
  -- "A room that holds nothing is never refused for want of a place", and one is free for it
  pub served : (q : Asked) → held_by r ts ≡ 0 → (1 ≤ free_places ts) × (Refuses desk r q 5 → ⊥) × (Refuses desk r q 6 → ⊥)
  -- 5 is given just where the room holds two; a core of another length meets 2 before
  pub five : (q : Asked) → Refuses desk r q 5 → held_by r ts ≡ 2
  pub five_given : (q : Asked) → length q.core ≡ w.core → held_by r ts ≡ 2 → Refuses desk r q 5
  -- 6 just where it holds one and F is not greater than H
  pub six : (q : Asked) → Refuses desk r q 6 → (held_by r ts ≡ 1) × (free_places ts ≤ idle_rooms ts)
  pub six_given : (q : Asked) → length q.core ≡ w.core → held_by r ts ≡ 1 → free_places ts ≤ idle_rooms ts → Refuses desk r q 6
  -- and no room holds over two
  pub most : held_by r ts ≤ 2
  -- a room that holds nothing is given a place for any area in its stretch and lists that obey
  pub given : (q : Asked) → length q.core ≡ w.core → held_by r ts ≡ 0
      → area_in (get_or (map_of w.map) r none) q.area ≡ true → lists_obey q.area q.ios q.tables ≡ true
      → (p : ℕ) × (open_answer desk r q ≡ Opened p)
  -- a place is given back only by a room that holds one
  pub freed : (k p : ℕ) → answer_to (Release k r p) (record { desk = desk; core = [] }) ≡ Released → 1 ≤ held_by r ts

-- and of each place: l says who holds it, by the grants and releases
pub record PlacesHeld (l : List ℕ) (w : MadeWith) (desk : List ℕ) (r : ℕ) : Type 0 where
  -- open gives the lowest free place
  pub lowest : (q : Asked) (p : ℕ) → open_answer desk r q ≡ Opened p → p ≡ lowest_free l
  -- the room that holds it can give it back, whatever its load waits for
  pub released : (p : ℕ) → get_or l p 0 ≡ r + 1 → answer_to (Release w.core r p) (record { desk = desk; core = [] }) ≡ Released
  -- any other is refused with 9, and so are its feeds
  pub not_released : (p : ℕ) → (get_or l p 0 ≡ r + 1 → ⊥)
      → answer_to (Release w.core r p) (record { desk = desk; core = [] }) ≡ Refused (fault 9)
  pub not-fed : (p : ℕ) (block core : List ℕ) → length core ≡ w.core → (get_or l p 0 ≡ r + 1 → ⊥)
      → answer_to (Feed r p block) (record { desk = desk; core = core }) ≡ Refused (fault 9)

-- after any make that was accepted, whatever happened then, further makes among it
abbrev pub Demand3Rooms : Type 0
Demand3Rooms =
    (s : State) (n : ℕ) (m : List ℕ) (es : List Event) (r : ℕ) → answer_to (Make n m) s ≡ Made → r < room_count
    → (ts : List Told) (w : MadeWith) (desk : List ℕ)
    → ts ≡ told es (call (Make n m) s) → w ≡ through made_then (record { core = n; map = m }) ts
    → desk ≡ (run event es (call (Make n m) s)).desk
    → PlacesGiven ts w desk r × PlacesHeld (holders_by ts) w desk r
