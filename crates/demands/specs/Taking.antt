-- A load by itself: blocks that it takes one after another, each accepted.
use Rattle.std.specs.Prelude.{ℕ, ◌≡◌, false, List, [], ◌∷◌, Ok, Err}
use Rattle.stage.specs.declared.Stage.{Stage}
use Rattle.stage.specs.declared.Stage.TheVariants.{Complete}
use Rattle.stage.specs.Step.{StepResult}
use Rattle.stage.specs.declared.Step.TheVariants.{More, Done}
use Rattle.stage.specs.Record.{is_over}
use Rattle.lists.specs.Load.{Load}
use Rattle.feed.specs.Block.{block_step}

abbrev pub TakesBy : StepResult → (Stage → Type 0) → Type 0
TakesBy (Ok (More s)) next = next s
TakesBy (Ok (Done a)) next = next Complete
TakesBy (Err f) next = ⊥

-- from waiting for s with the core as it is, to waiting for t with the core `after`
unfoldable pub Takes : Load → Stage → List ℕ → List (List ℕ) → Stage → List ℕ → Type 0
Takes x s core [] t after = (s ≡ t) × (core ≡ after)
Takes x s core (block ∷ blocks) t after =
    (is_over s ≡ false)
    × TakesBy (block_step x s block core).step (λ u. Takes x u (block_step x s block core).core blocks t after)
