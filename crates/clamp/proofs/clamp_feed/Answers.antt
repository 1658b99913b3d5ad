-- `clamp::clamp_feed` meets its contract: what the call leaves, packed.
use Rattle.feed.proofs.Fed.{feed_small}
use Rattle.clamp.proofs.Returned.{packed_returned}
use Rattle.clamp.proofs.clamp_feed.Goals as goal

pub pack-requires : goal.pack-requires
pack-requires c = rw c.feed_block.ensures.told (feed_small _ _ _ _ _)

pub returns : goal.returns
returns c = packed_returned _ _ _ _ _ c.feed_block.ensures c.pack.ensures
