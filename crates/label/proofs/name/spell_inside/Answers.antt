-- `label::name::spell_inside` meets its contract: each return by the tests that led to it.
use mathlib.Core.Path.{sym, ◌∙◌}
use Rattle.word.proofs.Tests.{tests}
use Rattle.label.specs.HowSpelling.{next_spelling}
use Rattle.label.proofs.name.spell_inside.Goals as goal

pub returns-then-c-eq-SPACE : goal.returns-then-c-eq-SPACE
unfolding next_spelling
returns-then-c-eq-SPACE c = search tests

pub returns-then-letter_or_digit : goal.returns-then-letter_or_digit
unfolding next_spelling
returns-then-letter_or_digit c = search (tests, sym c.letter_or_digit.ensures ∙ c.if-letter_or_digit.true)

pub returns-then-c-eq-HYPHEN : goal.returns-then-c-eq-HYPHEN
unfolding next_spelling
returns-then-c-eq-HYPHEN c = search (tests, sym c.letter_or_digit.ensures ∙ c.if-letter_or_digit.false)

pub returns : goal.returns
unfolding next_spelling
returns c = search (tests, sym c.letter_or_digit.ensures ∙ c.if-letter_or_digit.false)
