-- `lists::keeping::keep_numbers` meets its contract: at every turn the words before place i are those that are kept.
use Rattle.std.proofs.Common.{◌≡◌}
use Rattle.word.proofs.Lists.{copied}
use Rattle.lists.specs.HowKeep.{fours_kept}
use Rattle.lists.proofs.keeping.keep_numbers.Given as goal

abbrev pub invariant-loop-i : goal.invariant-loop-i
invariant-loop-i l = l.out ≡ copied l.initial.out 0 (fours_kept l.numbers l.n) l.i
