-- `label::name::spell` meets its contract: each return by the tests that led to it.
use Rattle.label.specs.HowSpelling.{next_spelling}
use Rattle.label.proofs.name.spell.Goals as goal

pub returns-in-First : goal.returns-in-First
returns-in-First c = rw c.in-First.is c.spell_first.ensures

pub returns-in-Inside : goal.returns-in-Inside
returns-in-Inside c = rw c.in-Inside.is c.spell_inside.ensures

pub returns-in-Spaces : goal.returns-in-Spaces
returns-in-Spaces c = rw c.in-Spaces.is c.spell_space.ensures

pub returns-in-Wrong : goal.returns-in-Wrong
unfolding next_spelling
returns-in-Wrong c = rw c.in-Wrong.is
