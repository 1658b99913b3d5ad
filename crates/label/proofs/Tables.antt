-- The tables of a label: what is known of those that stand. They are four at most, so that no loop reads past the block and no
-- fault lies past word 8; and they are within the limits.
use Prim.Native.Nat.{ℕ, zero, suc, ◌+◌, ◌≤◌, ◌<◌}
use mathlib.Core.Path.{◌≡◌, refl}
use mathlib.Core.Bool.{Bool, true, false≢true, ◌&&◌}
use mathlib.Core.List.{List, [], ◌∷◌}
use native.Mathlib.Omega.{arith}
use lib.ListN.{length, take}
use lib.Seq.{get_or-take, length-take-le, take_all}
use lib.Dec.{eqb, leb}
use borrow.Author.Tests.{ltb-true, leb-true, eqb-true, ne_eqb}
use Rattle.word.specs.Word.{bits}
use Rattle.word.specs.Limits.{io_most, tables_most}
use Rattle.word.specs.Lists.{every}
use Rattle.word.proofs.Cases.{by-lt, both, and_left, and_right}
use Rattle.word.proofs.Every.{every-place}
use Rattle.word.proofs.First.{AllBelow, first_most, first-before}
use Rattle.label.specs.Tables.{TableWord, table_word, is_carried, carries, rises, has_entries, entries_if, entries_of, counts_of}
use Rattle.label.specs.Tables.{channels_most, within_limits, table_at, table_stands, first_table, tables_stand}
use Rattle.label.specs.HowTables.{counted_with, FewEntries}
use Rattle.label.specs.declared.Counts.{Counts}

-- ---- the clauses of a table that stands
module _ (ts : List TableWord) (j : ℕ) (q : table_stands ts j ≡ true) where
  abbrev above : TableWord → Bool
  above x = rises x (table_at ts j)

  pub stands_carried : carries (table_at ts j) ≡ true
  unfolding table_stands
  stands_carried = and_left (carries (table_at ts j)) _ q

  rest : (every above (take j ts) && (has_entries (table_at ts j) && within_limits (counts_of (take (suc j) ts)))) ≡ true
  unfolding table_stands
  rest = and_right (carries (table_at ts j)) _ q

  pub stands_entries : has_entries (table_at ts j) ≡ true
  stands_entries = and_left (has_entries (table_at ts j)) _ (and_right (every above (take j ts)) _ rest)

  pub stands_within : within_limits (counts_of (take (suc j) ts)) ≡ true
  stands_within = and_right (has_entries (table_at ts j)) _ (and_right (every above (take j ts)) _ rest)

  pub stands_above : (i : ℕ) → i < j → j ≤ length ts → (table_at ts i).type < (table_at ts j).type
  stands_above i h k =
      let l = length-take-le j ts k in
      let e = every-place (table_word 0) above (take j ts) i (omega arith) (and_left (every above (take j ts)) _ rest) in
      ltb-true (table_at ts i).type (table_at ts j).type (rw (get_or-take j ts i (table_word 0) h) at e)

-- ---- at most four stand: a fifth type carried, above four others, there is not
module _ (t : ℕ) (q : is_carried t ≡ true) where
  one_of : (t ≡ 0 → ⊥) → (t ≡ 2 → ⊥) → (t ≡ 3 → ⊥) → (t ≡ 12 → ⊥) → ⊥
  unfolding is_carried
  one_of a b c d = false≢true (rw (ne_eqb t 0 a, ne_eqb t 2 b, ne_eqb t 3 c, ne_eqb t 12 d) at q)

  -- the types that lie between, and those above
  above-first : 0 < t → 2 ≤ t
  above-first h = by-lt t 2
      (λ l. absurd (one_of (λ e. omega arith) (λ e. omega arith) (λ e. omega arith) (λ e. omega arith)))
      (λ g. g)

  above_third : 3 < t → 12 ≤ t
  above_third h = by-lt t 12
      (λ l. absurd (one_of (λ e. omega arith) (λ e. omega arith) (λ e. omega arith) (λ e. omega arith)))
      (λ g. g)

  carried_most : t ≤ 12
  carried_most = by-lt 12 t
      (λ l. absurd (one_of (λ e. omega arith) (λ e. omega arith) (λ e. omega arith) (λ e. omega arith)))
      (λ g. g)

module _ (ts : List TableWord) (a : AllBelow (table_stands ts) 5) (h : 5 ≤ length ts) where
  of_type_lem : (j : ℕ) → j < 5 → is_carried (table_at ts j).type ≡ true
  of_type_lem j l = stands_carried ts j (a j l)

  next : (j : ℕ) → suc j < 5 → (table_at ts j).type < (table_at ts (suc j)).type
  next j l = stands_above ts (suc j) (a (suc j) l) j (omega arith) (omega arith)

  no_five : ⊥
  no_five =
      let t1 = above-first (table_at ts 1).type (of_type_lem 1 (omega arith)) (omega (arith, next 0 (omega arith))) in
      let t2 = next 1 (omega arith) in
      let t3 = above_third (table_at ts 3).type (of_type_lem 3 (omega arith)) (omega (arith, next 2 (omega arith))) in
      let t4 = next 3 (omega arith) in
      let m = carried_most (table_at ts 4).type (of_type_lem 4 (omega arith)) in
      omega arith

pub few_stand : (ts : List TableWord) (k : ℕ) → k ≤ length ts → AllBelow (table_stands ts) k → k ≤ 4
few_stand ts k h a = by-lt 4 k (λ l. absurd (no_five ts (λ i m. a i (omega arith)) (omega arith))) (λ g. g)

module _ (ts : List TableWord) where
  stand_before : AllBelow (table_stands ts) (first_table ts)
  unfolding first_table
  stand_before = first-before (table_stands ts) (length ts)

  first_in_lem : first_table ts ≤ length ts
  unfolding first_table
  first_in_lem = first_most (table_stands ts) (length ts)

  -- so the first that does not is one of the first five
  pub table_few : first_table ts ≤ 4
  table_few = few_stand ts (first_table ts) first_in_lem stand_before

  pub all_stand : tables_stand ts ≡ true → AllBelow (table_stands ts) (length ts)
  unfolding tables_stand
  all_stand q = let e = eqb-true (first_table ts) (length ts) q in rw e at stand_before

-- ---- counts
module _ (c : Counts) (q : within_limits c ≡ true) where
  others : (leb (c.switches + c.channels + c.units) io_most && leb c.tables tables_most) ≡ true
  unfolding within_limits
  others = and_right (leb (c.switches + c.channels) channels_most) _ q

  pub few_channels : c.switches + c.channels ≤ channels_most
  unfolding within_limits
  few_channels = leb-true (c.switches + c.channels) channels_most (and_left (leb (c.switches + c.channels) channels_most) _ q)

  pub few_io : c.switches + c.channels + c.units ≤ io_most
  few_io =
      leb-true (c.switches + c.channels + c.units) io_most
      (and_left (leb (c.switches + c.channels + c.units) io_most) (leb c.tables tables_most) others)

  pub few_tables : c.tables ≤ tables_most
  few_tables =
      leb-true c.tables tables_most
      (and_right (leb (c.switches + c.channels + c.units) io_most) (leb c.tables tables_most) others)

  pub few : FewEntries c
  few =
      let a = few_channels in
      let b = few_io in
      let d = few_tables in
      record { switches = omega arith; channels = omega arith; units = omega arith; tables = omega arith }

pub counted_most : (t w : ℕ) → entries_if t (table_word w) ≤ 511
counted_most t w = both (λ (x : ℕ). x ≤ 511) (eqb (bits 35 32 w) t) (omega arith) (omega arith)

-- one table more takes them no further than sums can hold
pub counted_few : (c : Counts) (w : ℕ) → within_limits c ≡ true → FewEntries (counted_with c (table_word w))
unfolding counted_with
counted_few c w q =
    let a = few_channels c q in
    let b = few_io c q in
    let d = few_tables c q in
    record {
      switches = omega (arith, counted_most 0 w);
      channels = omega (arith, counted_most 2 w);
      units = omega (arith, counted_most 3 w);
      tables = omega (arith, counted_most 12 w);
    }

entries-front : (t : ℕ) (ts : List TableWord) (j : ℕ) → j < length ts
    → entries_of t (take (suc j) ts) ≡ entries_of t (take j ts) + entries_if t (table_at ts j)
unfolding entries_of
entries-front t [] j h = absurd (omega arith)
entries-front t (x ∷ xs) zero h = omega arith
entries-front t (x ∷ xs) (suc j) h = let e = entries-front t xs j (omega arith) in omega arith

pub counts-front : (ts : List TableWord) (j : ℕ) → j < length ts
    → counts_of (take (suc j) ts) ≡ counted_with (counts_of (take j ts)) (table_at ts j)
unfolding counts_of counted_with
counts-front ts j h = rw (entries-front 0 ts j h, entries-front 2 ts j h, entries-front 3 ts j h, entries-front 12 ts j h)

-- the tables that stand are within the limits
module _ (ts : List TableWord) where
  none_within : within_limits (counts_of (take 0 ts)) ≡ true
  unfolding counts_of entries_of within_limits
  none_within = refl

  front-within : (k : ℕ) → AllBelow (table_stands ts) k → within_limits (counts_of (take k ts)) ≡ true
  front-within zero a = none_within
  front-within (suc k) a = stands_within ts k (a k (omega arith))

  pub stand_within : tables_stand ts ≡ true → within_limits (counts_of ts) ≡ true
  stand_within q = rw (take_all (length ts) ts (omega arith)) at (front-within (length ts) (all_stand ts q))
