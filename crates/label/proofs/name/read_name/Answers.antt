-- `label::name::read_name` meets its contract: a spelling goes wrong in the word of the first wrong character.
use mathlib.Core.Path.{sym, ◌∙◌}
use Rattle.label.proofs.Spelt.{six, name_first, name_second, name_right}
use Rattle.label.proofs.name.read_name.Goals as goal

pub returns-then-is_wrong : goal.returns-then-is_wrong
returns-then-is_wrong c = name_first _ _ (six _) (six _) _ c.spell_word-s.ensures (sym c.is_wrong.ensures ∙ c.if-is_wrong.true)

pub returns-then-is_wrong-2 : goal.returns-then-is_wrong-2
returns-then-is_wrong-2 c =
    rw c.further.ensures
    (name_second _ _ (six _) (six _) _ _ c.spell_word-s.ensures c.spell_word.ensures
    (sym c.is_wrong.ensures ∙ c.if-is_wrong.false) (sym c.is_wrong-2.ensures ∙ c.if-is_wrong-2.true))

pub returns : goal.returns
returns c =
    name_right _ _ (six _) (six _) _ _ c.spell_word-s.ensures c.spell_word.ensures
    (sym c.is_wrong-2.ensures ∙ c.if-is_wrong-2.false)
