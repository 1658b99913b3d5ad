-- Feeds that are all lent the one core, with nothing else among them.
use Rattle.std.specs.Prelude.{ℕ, min, List, map}
use Rattle.word.specs.Limits.{place_count}
use Rattle.calls.specs.declared.Answer.{Answer}
use Rattle.demands.specs.History.{State, Call, answer_to, call, Event}
use Rattle.demands.specs.History.Call.{Feed}
use Rattle.demands.specs.History.Event.{Here}

-- a feed: room, place and block
pub record Fed : Type 0 where
  pub room : ℕ
  pub place : ℕ
  pub block : List ℕ

abbrev pub fed_call : Fed → Call
fed_call e = Feed e.room e.place e.block

abbrev pub feed : Fed → State → State
feed e s = call (fed_call e) s

abbrev pub fed_answer : Fed → State → Answer
fed_answer e s = answer_to (fed_call e) s

-- the place that a feed names, 0 to 11; 12 stands for every number over 11
abbrev pub place_number : Fed → ℕ
place_number e = min e.place place_count

-- as events
abbrev pub fed_events : List Fed → List Event
fed_events = map (λ (e : Fed). Here (fed_call e))
