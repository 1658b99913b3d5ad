-- `map::stretch_of` meets its contract: the two numbers are what `word_at` gives.
use Rattle.map.specs.Map.{stretch_of}
use Rattle.map.proofs.stretch_of.Goals as goal

pub returns : goal.returns
unfolding stretch_of
returns c = rw (← c.word_at-start.ensures, ← c.word_at-len.ensures)
