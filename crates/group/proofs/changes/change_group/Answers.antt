-- `changes::change_group`: from what its callees ensure; where every indicator word is 0, no word changes.
use mathlib.Core.Path.{sym, ◌∙◌}
use Rattle.group.proofs.LoopTurn.{lent-given, every_list_all, no_change}
use Rattle.group.proofs.changes.change_group.Goals as goal

pub returns-then-all_zero : goal.returns-then-all_zero
returns-then-all_zero c =
    no_change _ _ _ _ _ c.requires _ _ (c.copy_whole.ensures ∙ lent-given c.args.words.now c.args.n)
    (sym (every_list_all _ _) ∙ sym c.all_zero.ensures ∙ c.if-all_zero.true)

pub returns : goal.returns
returns c = c.change_words.ensures
