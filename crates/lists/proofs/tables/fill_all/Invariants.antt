-- `lists::tables::fill_all` meets its contract: at every turn what is written and the words of the tables that are left are all of
-- them.
use Rattle.std.proofs.Common.{◌≡◌, ◌++◌, take, drop}
use Rattle.lists.specs.Obey.{tables_of}
use Rattle.lists.specs.HowKeep.{words_from}
use Rattle.lists.proofs.tables.fill_all.Given as goal

abbrev pub invariant-loop-k : goal.invariant-loop-k
invariant-loop-k l = (words_from 0 (tables_of l.tables) ≡ take l.k l.words ++ words_from l.k (drop l.k (tables_of l.tables)))
    × (drop l.k l.words ≡ drop l.k l.initial.words)
