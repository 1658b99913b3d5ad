-- `lists::keeping::away_ranks` meets its contract: at every turn the ranks before place k are written.
use Rattle.std.proofs.Common.{◌≡◌, map}
use Rattle.word.proofs.Lists.{copied}
use Rattle.lists.specs.Obey.{tables_of}
use Rattle.lists.specs.HowKeep.{away_rank}
use Rattle.lists.proofs.keeping.away_ranks.Given as goal

abbrev pub invariant-loop-k : goal.invariant-loop-k
invariant-loop-k l = l.ranks ≡ copied l.initial.ranks 0 (map away_rank (tables_of l.tables)) l.k
