-- A test of each table of a load by its number is a test of all its tables.
use Rattle.std.proofs.Common.{◌≡◌, ℕ, List, Bool, sym, ap, ◌∙◌, refl}
use mathlib.Core.Bool.{◌&&◌}
use Rattle.std.specs.List.{list_all, range_with_len}
use Rattle.std.proofs.lemmas.List.Folds.{list_all-map}
use Rattle.std.proofs.lemmas.List.FromFn.{fill_by_all}
use Rattle.std.proofs.lemmas.List.Recursion.{same_from_clauses}
use Rattle.word.specs.Lists.{every}
use Rattle.lists.specs.declared.Given.{Given}
use Rattle.lists.specs.declared.Table.{Table}
use Rattle.lists.specs.Load.{core_table, core_tables, Readable}
use Rattle.lists.specs.Obey.{no_table}
use Rattle.lists.proofs.Reading.{core-length, core_at_lem}

pub tables_all : (g : Given) (l : List ℕ) → Readable g l → (f : Table → Bool)
    → list_all (λ k. f (core_table g l k)) (range_with_len 0 g.tables) ≡ every f (core_tables g l)
unfolding every
tables_all g l r f =
    sym (list_all-map f (core_table g l) (range_with_len 0 g.tables))
    ∙ ap (list_all f) (sym (fill_by_all (core_table g l) (core_tables g l) g.tables no_table (core-length g l r)
    (λ k h. core_at_lem g l r k no_table h)))
    ∙ same_from_clauses (list_all f) (every f) (λ x b. f x && b) refl (λ _ _. refl) (λ _ _. refl) (core_tables g l)
