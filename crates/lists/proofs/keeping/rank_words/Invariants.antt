-- `lists::keeping::rank_words` meets its contract: at every turn the words that are left still rank what was to be ranked.
use Rattle.std.proofs.Common.{◌≡◌, drop}
use Rattle.lists.specs.HowKeep.{ranked}
use Rattle.lists.proofs.keeping.rank_words.Given as goal

abbrev pub invariant-loop-p : goal.invariant-loop-p
invariant-loop-p l = ranked 0 l.words l.initial.ranks ≡ ranked l.p (drop l.p l.words) l.ranks
