-- `changes::store_word`: what became of the word is stored, or the refusal given on.
use mathlib.Core.Path.{refl}
use Rattle.group.specs.HowWords.{stored_step}
use Rattle.group.proofs.changes.store_word.Goals as goal

pub returns : goal.returns
unfolding stored_step
returns c = rw c.in_ok-v.was (record { told = refl; left = refl })

pub returns-in_err-v : goal.returns-in_err-v
unfolding stored_step
returns-in_err-v c = rw (c.in_err-v.was, c.from_residual.ensures) (record { told = refl; left = refl })
