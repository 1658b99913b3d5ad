-- `calls::open::write_place` meets its contract: its own numbers, and then the lists (`place-written`).
use Rattle.calls.proofs.Grant.{place-written}
use Rattle.calls.proofs.open.write_place.Goals as goal

pub returns : goal.returns
returns c = place-written _ _ _ _ _ c.requires.long _ _ _ c.requires.lists c.copy_in.ensures c.keep_lists.ensures
