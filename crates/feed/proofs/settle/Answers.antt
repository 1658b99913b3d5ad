-- `feed::settle` meets its contract: each return by the tests that led to it.
use Rattle.feed.specs.Feed.{settled_of}
use Rattle.std.proofs.Common.{rules}
use mathlib.Core.Path.{refl}
use Rattle.feed.proofs.settle.Goals as goal

pub returns-in-Ok-More : goal.returns-in-Ok-More
unfolding settled_of
returns-in-Ok-More c = record { told = search rules; desk_left = search rules; core-left = search rules }

pub returns-in-Ok-Done : goal.returns-in-Ok-Done
unfolding settled_of
returns-in-Ok-Done c = record { told = search rules; desk_left = search rules; core-left = search rules }

pub returns-in-Err : goal.returns-in-Err
unfolding settled_of
returns-in-Err c =
    rw c.in-Err.is
    (record { told = refl; desk_left = c.write_stage-in-Err.ensures; core-left = c.clear.ensures })
