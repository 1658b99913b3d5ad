-- Lives of loads, event by event: the hand deck in its room as 01 has it, two rooms interleaved, a load that breaks beside one that
-- completes, and a day in which programs run while others load. What each leads to is computed whole (`not_empty`, crate witness),
-- so that the demands are not vacuous.
use Rattle.std.specs.Prelude.{ℕ, ◌≡◌, List, [], ◌∷◌, replicate, set}
use Rattle.word.specs.Fault.{fault}
use Rattle.word.specs.Lists.{splice, cleared}
use Rattle.word.specs.declared.Area.{Area}
use Rattle.layout.specs.Layout.{desk_words}
use Rattle.calls.specs.declared.Answer.{Answer}
use Rattle.calls.specs.declared.Answer.TheVariants.{Refused, Made, Opened, More, Done, Released}
use Rattle.hand_deck.specs.Blocks.{deck_label, deck_program, deck_termination}
use Rattle.demands.specs.HandDeck.{deck_given}
use Rattle.demands.specs.Orders.{run}
use Rattle.demands.specs.History.{State, Event, event, Told, told}
use Rattle.demands.specs.History.Call.{Make, Open, Feed, Release}
use Rattle.demands.specs.History.Event.{Here, Elsewhere, OutsideStore}

-- what C lends for a desk, and a core of 4,096 words, with something in each
unfoldable pub old_desk : List ℕ
old_desk = replicate desk_words 9

unfoldable pub old_core : List ℕ
old_core = replicate 4096 5

unfoldable pub old : State
old = record { desk = old_desk; core = old_core }

-- "room 0's stretch all of them, other stretches empty", and half of them each for rooms 0 and 1
abbrev pub one_room : List ℕ
one_room = 0 ∷ 4096 ∷ 0 ∷ 0 ∷ 0 ∷ 0 ∷ 0 ∷ 0 ∷ 0 ∷ 0 ∷ 0 ∷ 0 ∷ 0 ∷ 0 ∷ 0 ∷ 0 ∷ []

abbrev pub two_rooms : List ℕ
two_rooms = 0 ∷ 2048 ∷ 2048 ∷ 2048 ∷ 0 ∷ 0 ∷ 0 ∷ 0 ∷ 0 ∷ 0 ∷ 0 ∷ 0 ∷ 0 ∷ 0 ∷ 0 ∷ 0 ∷ []

abbrev pub make : List ℕ → Event
make m = Here (Make 4096 m)

-- the answers alone
unfoldable pub answers_in : List Told → List Answer
answers_in [] = []
answers_in (t ∷ ts) = t.answer ∷ answers_in ts

-- area 2560 of size 64, for room 1
abbrev pub other_area : Area
other_area = record { at = record { 0 = 2560 }; size = 64 }

-- an area of one word
abbrev pub one_word : ℕ → Area
one_word j = record { at = record { 0 = j }; size = 1 }

-- room 0 feeds place 0, room 1 place 1
abbrev pub open0 : Event
open0 = Here (Open 0 deck_given.area [] [])

abbrev pub open1 : Event
open1 = Here (Open 1 other_area [] [])

abbrev pub fed0 : List ℕ → Event
fed0 block = Here (Feed 0 0 block)

abbrev pub fed1 : List ℕ → Event
fed1 block = Here (Feed 1 1 block)

-- the hand deck
abbrev pub deck_feeds : List Event
deck_feeds = fed0 deck_label ∷ fed0 deck_program ∷ fed0 deck_termination ∷ []

abbrev pub deck_life : List Event
deck_life = make one_room ∷ open0 ∷ deck_feeds

-- both rooms load it, interleaved
abbrev pub by_turns : List Event
by_turns =
    make two_rooms ∷ open0 ∷ open1
    ∷ fed0 deck_label ∷ fed1 deck_label
    ∷ fed1 deck_program ∷ fed0 deck_program
    ∷ fed0 deck_termination ∷ fed1 deck_termination ∷ []

-- room 0 feeds its program block again where the termination block is due, and then goes on
abbrev pub one_broken : List Event
one_broken =
    make two_rooms ∷ open0 ∷ open1
    ∷ fed0 deck_label ∷ fed1 deck_label
    ∷ fed0 deck_program ∷ fed0 deck_program
    ∷ fed1 deck_program ∷ fed0 deck_termination ∷ fed1 deck_termination ∷ []

-- room 1's program, loaded before, stores into its own area while room 0 loads; a feed of room 1 is lent a core of two words; room
-- 1 opens another load and is lent another core for it; a make is given a map of no numbers; and room 1 gives its first place back
abbrev pub while_it_loads : List Event
while_it_loads =
    fed0 deck_label
    ∷ OutsideStore 2600 77
    ∷ fed0 deck_program
    ∷ Elsewhere (1 ∷ 2 ∷ []) (Feed 1 1 deck_label)
    ∷ Elsewhere (replicate 4096 7) (Open 1 (one_word 3000) [] [])
    ∷ Here (Make 4096 [])
    ∷ Here (Release 4096 1 1)
    ∷ fed0 deck_termination ∷ []

abbrev pub day_life : List Event
day_life = make two_rooms ∷ open0 ∷ open1 ∷ fed1 deck_label ∷ fed1 deck_program ∷ fed1 deck_termination ∷ while_it_loads

-- eight rooms of 512 words each. Rooms 0 to 3 hold two places and room 4 one, so that three are free and three rooms hold none:
-- room 4 is refused a second one (6) and room 0 a third (5), and room 5 is given its first. On a new desk room 0 holds none again.
abbrev pub eight_rooms : List ℕ
eight_rooms =
    0 ∷ 512 ∷ 512 ∷ 512 ∷ 1024 ∷ 512 ∷ 1536 ∷ 512 ∷ 2048 ∷ 512 ∷ 2560 ∷ 512 ∷ 3072 ∷ 512 ∷ 3584 ∷ 512 ∷ []

abbrev pub asks : ℕ → ℕ → Event
asks r j = Here (Open r (one_word j) [] [])

abbrev pub crowded : List Event
crowded =
    make eight_rooms
    ∷ asks 0 0 ∷ asks 0 1 ∷ asks 1 512 ∷ asks 1 513 ∷ asks 2 1024 ∷ asks 2 1025 ∷ asks 3 1536 ∷ asks 3 1537 ∷ asks 4 2048
    ∷ asks 4 2049 ∷ asks 0 2 ∷ asks 5 2560 ∷ make eight_rooms ∷ asks 0 2 ∷ []

-- what they lead to
pub record NotEmpty : Type 0 where
  pub deck : answers_in (told deck_life old) ≡ Made ∷ Opened 0 ∷ More ∷ More ∷ Done (record { 0 = 512 }) ∷ []
  pub deck-left : (run event deck_life old).core ≡ splice old_core 512 (519 ∷ replicate 63 0)
  pub turns : answers_in (told by_turns old)
      ≡ Made ∷ Opened 0 ∷ Opened 1 ∷ More ∷ More ∷ More ∷ More ∷ Done (record { 0 = 512 }) ∷ Done (record { 0 = 2560 }) ∷ []
  pub turns_left : (run event by_turns old).core ≡ splice (splice old_core 512 (519 ∷ replicate 63 0)) 2560 (2567 ∷ replicate 63 0)
  pub broken : answers_in (told one_broken old)
      ≡ Made ∷ Opened 0 ∷ Opened 1 ∷ More ∷ More ∷ More ∷ Refused (fault 13) ∷ More ∷ Refused (fault 10)
      ∷ Done (record { 0 = 2560 }) ∷ []
  pub broken_left : (run event one_broken old).core ≡ splice (cleared old_core 512 64) 2560 (2567 ∷ replicate 63 0)
  pub day : answers_in (told day_life old)
      ≡ Made ∷ Opened 0 ∷ Opened 1 ∷ More ∷ More ∷ Done (record { 0 = 2560 })
      ∷ More ∷ More ∷ Refused (fault 2) ∷ Opened 2 ∷ Refused (fault 3) ∷ Released ∷ Done (record { 0 = 512 }) ∷ []
  pub day_left : (run event day_life old).core
      ≡ set (splice (splice old_core 512 (519 ∷ replicate 63 0)) 2560 (2567 ∷ replicate 63 0)) 2600 77
  pub crowd : answers_in (told crowded old)
      ≡ Made ∷ Opened 0 ∷ Opened 1 ∷ Opened 2 ∷ Opened 3 ∷ Opened 4 ∷ Opened 5 ∷ Opened 6 ∷ Opened 7 ∷ Opened 8
      ∷ Refused (fault 6) ∷ Refused (fault 5) ∷ Opened 9 ∷ Made ∷ Opened 0 ∷ []
