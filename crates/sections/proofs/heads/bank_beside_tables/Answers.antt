-- `heads::bank_beside_tables` meets its contract: `all` tries the numbers in order.
use Rattle.std.proofs.Common.{refl, ◌∙◌, ℕ, arith}
use Rattle.std.proofs.lemmas.Iterator.{YieldsList-from_range}
use Rattle.std.proofs.lemmas.Iterator.Search.{all_from_yields_List}
use Rattle.lists.specs.Load.{core_table}
use Rattle.word.proofs.Tests.{tests}
use Rattle.sections.specs.Heads.{beside_table}
use Rattle.sections.proofs.Tables.{tables_all}
use Rattle.sections.proofs.heads.bank_beside_tables.Goals as goal

pub returns : goal.returns
unfolding beside_table
returns c =
    let a = c.args in
    all_from_yields_List (λ (k : ℕ). beside_table a.g.area a.bank (core_table a.g a.lists.now k)) _ _ _ c.all.ensures.ran
    (YieldsList-from_range 0 a.g.tables a.g.tables refl (omega arith))
    (λ x b q k. search tests)
    ∙ tables_all a.g a.lists.now c.requires.0 (beside_table a.g.area a.bank)
