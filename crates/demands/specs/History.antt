-- A history: what happens to one desk, and to the one core that we follow. And what can be told of it from the calls and their
-- answers alone.
use Rattle.std.specs.Prelude.{ℕ, ◌+◌, Bool, true, false, not, cond, ◌&&◌, ◌||◌, List, [], ◌∷◌, set, eqb, leb, ltb}
use Rattle.word.specs.declared.Absolute.{Absolute}
use Rattle.word.specs.declared.Area.{Area}
use Rattle.calls.specs.declared.Answer.{Answer}
use Rattle.calls.specs.declared.Answer.TheVariants.{Refused, Made, Opened, More, Done, Released}
use Rattle.calls.specs.Make.{make_of}
use Rattle.calls.specs.Open.{open_of}
use Rattle.calls.specs.Release.{release_of}
use Rattle.feed.specs.Feed.{feed_of}

pub record State : Type 0 where
  pub desk : List ℕ
  pub core : List ℕ

-- the four calls, with any arguments. Make and release are not lent the core: they are given its length as a number.
pub data Call : Type 0 where
  Make : ℕ → List ℕ → Call
  Open : ℕ → Area → List ℕ → List ℕ → Call
  Feed : ℕ → ℕ → List ℕ → Call
  Release : ℕ → ℕ → ℕ → Call

-- the answer to a call, and the state that it leaves
unfoldable pub answer_to : Call → State → Answer
answer_to (Make n m) s = (make_of s.desk n m).answer
answer_to (Open r area ios tables) s = (open_of s.desk s.core r area ios tables).answer
answer_to (Feed r p block) s = (feed_of s.desk s.core r p block).answer
answer_to (Release n r p) s = (release_of s.desk n r p).answer

unfoldable pub call : Call → State → State
call (Make n m) s = record { desk = (make_of s.desk n m).desk; core = s.core }
call (Open r area ios tables) s =
    record { desk = (open_of s.desk s.core r area ios tables).desk; core = (open_of s.desk s.core r area ios tables).core }
call (Feed r p block) s =
    record { desk = (feed_of s.desk s.core r p block).desk; core = (feed_of s.desk s.core r p block).core }
call (Release n r p) s = record { desk = (release_of s.desk n r p).desk; core = s.core }

-- ---- what happens: a call on the desk that is lent the core that we follow; one that is lent another core; and a store from
-- outside, such as a running program makes: address and value. Nothing else writes to the desk. Make and release are lent no core:
-- for them the first two are the same.
pub data Event : Type 0 where
  Here : Call → Event
  Elsewhere : List ℕ → Call → Event
  OutsideStore : ℕ → ℕ → Event

-- our desk beside another core
abbrev pub lent : List ℕ → State → State
lent other s = record { desk = s.desk; core = other }

-- a store past the core's end changes no word of it
unfoldable pub event : Event → State → State
event (Here c) s = call c s
event (Elsewhere other c) s = record { desk = (call c (lent other s)).desk; core = s.core }
event (OutsideStore j v) s = record { desk = s.desk; core = set s.core j v }

-- ---- the calls with their answers
pub record Told : Type 0 where
  pub call : Call
  pub answer : Answer

abbrev pub told_by : Event → State → List Told → List Told
told_by (Here c) s rest = record { call = c; answer = answer_to c s } ∷ rest
told_by (Elsewhere other c) s rest = record { call = c; answer = answer_to c (lent other s) } ∷ rest
told_by (OutsideStore j v) s rest = rest

unfoldable pub told : List Event → State → List Told
told [] s = []
told (e ∷ es) s = told_by e s (told es (event e s))

-- ---- of one load, at place p and of room r, from what was told

-- a block that was accepted, by `more` or `done`
abbrev pub accepts : Answer → Bool
accepts (Refused f) = false
accepts Made = false
accepts (Opened p) = false
accepts More = true
accepts (Done a) = true
accepts Released = false

abbrev pub taken_in : ℕ → ℕ → Call → Answer → List (List ℕ) → List (List ℕ)
taken_in r p (Make n m) answer rest = rest
taken_in r p (Open q area ios tables) answer rest = rest
taken_in r p (Feed q k block) answer rest = cond (eqb q r && (eqb k p && accepts answer)) (block ∷ rest) rest
taken_in r p (Release n q k) answer rest = rest

-- the blocks that it accepted
unfoldable pub taken : ℕ → ℕ → List Told → List (List ℕ)
taken r p [] = []
taken r p (t ∷ ts) = taken_in r p t.call t.answer (taken r p ts)

-- the starts that it was answered with `done`
abbrev pub with_start : Answer → List Absolute → List Absolute
with_start (Refused f) rest = rest
with_start Made rest = rest
with_start (Opened p) rest = rest
with_start More rest = rest
with_start (Done a) rest = a ∷ rest
with_start Released rest = rest

abbrev pub starts_in : ℕ → ℕ → Call → Answer → List Absolute → List Absolute
starts_in r p (Make n m) answer rest = rest
starts_in r p (Open q area ios tables) answer rest = rest
starts_in r p (Feed q k block) answer rest = cond (eqb q r && eqb k p) (with_start answer rest) rest
starts_in r p (Release n q k) answer rest = rest

unfoldable pub starts : ℕ → ℕ → List Told → List Absolute
starts r p [] = []
starts r p (t ∷ ts) = starts_in r p t.call t.answer (starts r p ts)

-- whether the load is gone: its place was given back, or the desk was made anew
abbrev pub is_released : Answer → Bool
is_released (Refused f) = false
is_released Made = false
is_released (Opened p) = false
is_released More = false
is_released (Done a) = false
is_released Released = true

abbrev pub is_made : Answer → Bool
is_made (Refused f) = false
is_made Made = true
is_made (Opened p) = false
is_made More = false
is_made (Done a) = false
is_made Released = false

abbrev pub gone_by : ℕ → ℕ → Call → Answer → Bool
gone_by r p (Make n m) answer = is_made answer
gone_by r p (Open q area ios tables) answer = false
gone_by r p (Feed q k block) answer = false
gone_by r p (Release n q k) answer = eqb q r && (eqb k p && is_released answer)

unfoldable pub is_gone : ℕ → ℕ → List Told → Bool
is_gone r p [] = false
is_gone r p (t ∷ ts) = gone_by r p t.call t.answer || is_gone r p ts

-- ---- the load's own feeds that were lent its core, and the answers to its feeds
abbrev pub feeds_it : ℕ → ℕ → Call → Bool
feeds_it r p (Make n m) = false
feeds_it r p (Open q area ios tables) = false
feeds_it r p (Feed q k block) = eqb q r && eqb k p
feeds_it r p (Release n q k) = false

abbrev pub is_own_feed : ℕ → ℕ → Event → Bool
is_own_feed r p (Here c) = feeds_it r p c
is_own_feed r p (Elsewhere other c) = false
is_own_feed r p (OutsideStore j v) = false

unfoldable pub own_feeds : ℕ → ℕ → List Event → List Event
own_feeds r p [] = []
own_feeds r p (e ∷ es) = cond (is_own_feed r p e) (e ∷ own_feeds r p es) (own_feeds r p es)

unfoldable pub answers_for : ℕ → ℕ → List Told → List Answer
answers_for r p [] = []
answers_for r p (t ∷ ts) = cond (feeds_it r p t.call) (t.answer ∷ answers_for r p ts) (answers_for r p ts)

-- ---- what does a load no harm: any call that is lent its core (whether the load is still there after it, `is_gone` says); a call
-- that is lent another one, if it is not the load's own feed; and a store outside its area
abbrev pub is_in : Area → ℕ → Bool
is_in area j = leb area.at.0 j && ltb j (area.at.0 + area.size)

abbrev pub harmless : ℕ → ℕ → Area → Event → Bool
harmless r p area (Here c) = true
harmless r p area (Elsewhere other c) = not (feeds_it r p c)
harmless r p area (OutsideStore j v) = not (is_in area j)
