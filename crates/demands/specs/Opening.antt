-- A load from its opening on: the state that open was called in, what it was given and the place that it answered; and what
-- happened since.
use Rattle.std.specs.Prelude.{ℕ, ◌≡◌, true, false, List}
use Rattle.word.specs.Fault.{fault}
use Rattle.word.specs.Lists.{every, range}
use Rattle.word.specs.declared.Area.{Area}
use Rattle.lists.specs.Obey.{tables_of}
use Rattle.calls.specs.declared.Answer.{Answer}
use Rattle.calls.specs.declared.Answer.TheVariants.{Refused, Opened}
use Rattle.demands.specs.Image.{image_of}
use Rattle.demands.specs.History.{State, answer_to, call, Event, Told, told, taken, is_gone, own_feeds, harmless}
use Rattle.demands.specs.History.Call.{Open}

pub record Opening : Type 0 where
  pub before : State
  pub room : ℕ
  pub area : Area
  pub ios : List ℕ
  pub tables : List ℕ
  pub place : ℕ

abbrev pub IsGranted : Opening → Type 0
IsGranted o = answer_to (Open o.room o.area o.ios o.tables) o.before ≡ Opened o.place

abbrev pub after_open : Opening → State
after_open o = call (Open o.room o.area o.ios o.tables) o.before

-- the calls and answers since
abbrev pub since : Opening → List Event → List Told
since o es = told es (after_open o)

-- the load is still there after them: its place was not released, and no new desk was made
abbrev pub Stays : Opening → List Event → Type 0
Stays o es = is_gone o.room o.place (since o es) ≡ false

-- no store from outside hit its area, and its own feeds were lent its core. Stores elsewhere, and any calls of others, do it no
-- harm.
abbrev pub Unharmed : Opening → List Event → Type 0
Unharmed o es = every (harmless o.room o.place o.area) es ≡ true

-- its own feeds alone
abbrev pub own_events : Opening → List Event → List Event
own_events o es = own_feeds o.room o.place es

-- the image of the blocks that the load accepted
abbrev pub image_since : Opening → List Event → List ℕ
image_since o es = image_of o.area (tables_of o.tables) o.ios (taken o.room o.place (since o es))

abbrev pub area_words : Opening → State → List ℕ
area_words o s = range s.core o.area.at.0 o.area.size

-- ---- an open that a room may come with: any area, lists and core; and what it is answered on a desk
pub record Asked : Type 0 where
  pub area : Area
  pub ios : List ℕ
  pub tables : List ℕ
  pub core : List ℕ

abbrev pub open_answer : List ℕ → ℕ → Asked → Answer
open_answer desk r q = answer_to (Open r q.area q.ios q.tables) (record { desk = desk; core = q.core })

abbrev pub Refuses : List ℕ → ℕ → Asked → ℕ → Type 0
Refuses desk r q f = open_answer desk r q ≡ Refused (fault f)
