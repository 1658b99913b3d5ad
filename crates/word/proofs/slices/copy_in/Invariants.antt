-- `word::slices::copy_in` meets its contract: by the loop's invariant.
use mathlib.Core.Path.{◌≡◌}
use Rattle.word.proofs.Lists.{copied}
use Rattle.word.proofs.slices.copy_in.Given as goal

abbrev pub invariant-loop-i : goal.invariant-loop-i
invariant-loop-i l = l.dst ≡ copied l.initial.dst l.a l.src l.i
