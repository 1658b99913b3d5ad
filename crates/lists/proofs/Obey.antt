-- What it says of a table to lie inside the area, and of two that they share no word.
use Rattle.std.proofs.Common.{◌≡◌, ◌+◌, ◌<◌, ◌≤◌, true, arith}
use Rattle.word.specs.declared.Area.{Area}
use Rattle.word.specs.Runs.{Apart, Says}
use Rattle.word.proofs.Cases.{by-lt}
use Rattle.word.proofs.Says.{says_within, says_apart}
use Rattle.lists.specs.declared.Table.{Table}
use Rattle.lists.specs.Obey.{table_inside, tables_apart}

pub says_inside : (area : Area) (t : Table)
    → Says (table_inside area t) ((area.at.0 ≤ t.at.0) × (t.at.0 + t.len ≤ area.at.0 + area.size))
unfolding table_inside
says_inside area t = says_within t.at.0 t.len area.at.0 area.size

module _ (t u : Table) where
  pub says_tables : Says (tables_apart t u) (Apart t.at.0 t.len u.at.0 u.len)
  unfolding tables_apart
  says_tables = says_apart t.at.0 t.len u.at.0 u.len

  -- tables that are apart: one is empty, or the first ends where the second starts or before
  pub first_empty : t.len ≡ 0 → tables_apart t u ≡ true
  first_empty h = says_tables.test (λ i a b c d. omega arith)

  pub second_empty : u.len ≡ 0 → tables_apart t u ≡ true
  second_empty h = says_tables.test (λ i a b c d. omega arith)

  pub first-before : t.at.0 + t.len ≤ u.at.0 → tables_apart t u ≡ true
  first-before h = says_tables.test (λ i a b c d. omega arith)

  -- and the other way: of two that are not empty and apart, the one that does not start after the other ends before it
  pub apart-before : tables_apart t u ≡ true → 0 < t.len → 0 < u.len → t.at.0 ≤ u.at.0 → t.at.0 + t.len ≤ u.at.0
  apart-before q f g h =
      by-lt u.at.0 (t.at.0 + t.len)
      (λ l. absurd (says_tables.fact q u.at.0 h l (omega arith) (omega arith)))
      (λ l. l)

pub apart_sym : (t u : Table) → tables_apart t u ≡ true → tables_apart u t ≡ true
apart_sym t u q = (says_tables u t).test (λ i a b c d. (says_tables t u).fact q i c d a b)
