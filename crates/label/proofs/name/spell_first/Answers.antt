-- `label::name::spell_first` meets its contract: each return by the tests that led to it.
use mathlib.Core.Path.{sym, ◌∙◌}
use Rattle.label.specs.HowSpelling.{next_spelling}
use Rattle.label.proofs.name.spell_first.Goals as goal

pub returns-then-letter_or_digit : goal.returns-then-letter_or_digit
unfolding next_spelling
returns-then-letter_or_digit c = rw (sym c.letter_or_digit.ensures ∙ c.if-letter_or_digit.true)

pub returns : goal.returns
unfolding next_spelling
returns c = rw (sym c.letter_or_digit.ensures ∙ c.if-letter_or_digit.false)
