-- `old_seal::seal_place` meets its contract: each return by the test that led to it.
use Rattle.word.proofs.Tests.{tests}
use Rattle.old_seal.specs.Reseal.{seal_place}
use Rattle.old_seal.proofs.seal_place.Goals as goal

pub returns-then-index-eq0 : goal.returns-then-index-eq0
unfolding seal_place
returns-then-index-eq0 c = search tests

pub returns-else-index-eq0 : goal.returns-else-index-eq0
unfolding seal_place
returns-else-index-eq0 c = search tests
