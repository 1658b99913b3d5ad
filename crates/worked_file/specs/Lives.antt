-- Lives of loads on a desk, from make on: room 0 has all of a core of 4,096 words, which are all 5, opens a load and feeds it a
-- file.
use Rattle.std.specs.Prelude.{ℕ, List, [], ◌∷◌, map, Ok, Err}
use Rattle.word.specs.declared.Area.{Area}
use Rattle.lists.specs.Load.{Load}
use Rattle.stage.specs.declared.Stage.{Stage}
use Rattle.stage.specs.declared.Stage.TheVariants.{Complete, Broken}
use Rattle.stage.specs.Step.{StepResult}
use Rattle.stage.specs.declared.Step.TheVariants.{More, Done}
use Rattle.feed.specs.Block.{block_step}
use Rattle.calls.specs.declared.Answer.{Answer}
use Rattle.demands.specs.Orders.{run}
use Rattle.demands.specs.History.{State, Event, event, told}
use Rattle.demands.specs.History.Call.{Open, Feed}
use Rattle.demands.specs.History.Event.{Here}
use Rattle.demands.specs.Examples.{old, one_room, make, answers_in}

-- make, open with these lists, and then each block of the file
abbrev pub life : Area → List ℕ → List ℕ → List (List ℕ) → List Event
life area ios tables file = make one_room ∷ Here (Open 0 area ios tables) ∷ map (λ block. Here (Feed 0 0 block)) file

-- what the calls are answered, and the core that they leave
abbrev pub answers_to : List Event → List Answer
answers_to es = answers_in (told es old)

abbrev pub core_left : List Event → List ℕ
core_left es = (run event es old).core

-- the states that they lead through, from the one before the first on
unfoldable pub states_from : List Event → State → List State
states_from [] s = s ∷ []
states_from (e ∷ es) s = s ∷ states_from es (event e s)

-- ---- a load by itself, without a desk: what it waits for, and the core
pub record Waiting : Type 0 where
  pub stage : Stage
  pub core : List ℕ

abbrev pub stage_after : StepResult → Stage
stage_after (Ok (More s)) = s
stage_after (Ok (Done a)) = Complete
stage_after (Err f) = Broken

abbrev pub takes : Load → Waiting → List ℕ → Waiting
takes x w block = record {
  stage = stage_after (block_step x w.stage block w.core).step;
  core = (block_step x w.stage block w.core).core;
}

-- from before the first block on
unfoldable pub waits_from : Load → Waiting → List (List ℕ) → List Waiting
waits_from x w [] = w ∷ []
waits_from x w (block ∷ blocks) = w ∷ waits_from x (takes x w block) blocks
