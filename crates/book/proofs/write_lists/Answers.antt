-- `book::write_lists` meets its contract: the marks of each kind, as numbers.
use Rattle.book.proofs.Filling.{io_ready, pairs_ready}
use Rattle.book.proofs.write_lists.Goals as goal

pub write_numbers-requires : goal.write_numbers-requires
write_numbers-requires c = io_ready _ _ _ _ c.requires _ c.kept_of.ensures

pub write_pairs-requires : goal.write_pairs-requires
write_pairs-requires c = pairs_ready _ _ _ _ c.requires _ _ c.kept_of-addresses.ensures c.kept_of-2.ensures

pub returns : goal.returns
returns c = record {
  io-left = rw (← c.kept_of.ensures) c.write_numbers.ensures;
  tables-left = rw (← c.kept_of-addresses.ensures, ← c.kept_of-2.ensures) c.write_pairs.ensures;
}
