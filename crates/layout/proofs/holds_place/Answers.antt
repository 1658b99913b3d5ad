-- `layout::holds_place` meets its contract: its tests are those of `holds`.
use Rattle.word.proofs.Tests.{tests}
use Rattle.layout.specs.Layout.{holds}
use Rattle.layout.proofs.holds_place.Goals as goal

pub returns-then-place : goal.returns-then-place
unfolding holds
returns-then-place c = search tests

pub returns-else-place : goal.returns-else-place
unfolding holds
returns-else-place c = search tests
