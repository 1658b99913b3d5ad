-- `feed::write_stage` meets its contract: each return by the tests that led to it.
use Rattle.feed.specs.Feed.{staged}
use Rattle.feed.proofs.write_stage.Goals as goal

pub returns : goal.returns
unfolding staged
returns c = rw c.stage_numbers-n.ensures at c.copy_in.ensures
