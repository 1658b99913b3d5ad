-- `lists::tables::none_empty` meets its contract: the or'ed numbers say it of every table.
use Rattle.std.proofs.Common.{rules}
use Rattle.lists.specs.Obey.{tables_of}
use Rattle.lists.specs.HowKeep.{has_room, has_words}
use Rattle.lists.proofs.Gathered.{gathered_says}
use Rattle.lists.proofs.Take.{one_less}
use Rattle.lists.proofs.tables.none_empty.Goals as goal

pub returns : goal.returns
returns c =
    gathered_says _ 63 has_room has_words (λ t w m q. one_less t w m (search rules)) 0 (tables_of c.args.tables.now) _ c.requires
    c.gather.ensures
