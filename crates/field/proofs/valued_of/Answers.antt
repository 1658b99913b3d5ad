-- `field::valued_of` meets its contract: each way out by its test.
use Rattle.field.specs.Field.{valued}
use Rattle.word.proofs.Tests.{tests}
use Rattle.field.proofs.valued_of.Goals as goal

pub returns-then-v-lt-VALUE_LIMIT : goal.returns-then-v-lt-VALUE_LIMIT
unfolding valued
returns-then-v-lt-VALUE_LIMIT c = search tests

pub returns : goal.returns
unfolding valued
returns c = search tests
