-- `label::name::spell_space` meets its contract: each return by the tests that led to it.
use Rattle.word.proofs.Tests.{tests}
use Rattle.label.specs.HowSpelling.{next_spelling}
use Rattle.label.proofs.name.spell_space.Goals as goal

pub returns-then-c-eq-SPACE : goal.returns-then-c-eq-SPACE
unfolding next_spelling
returns-then-c-eq-SPACE c = search tests

pub returns : goal.returns
unfolding next_spelling
returns c = search tests
