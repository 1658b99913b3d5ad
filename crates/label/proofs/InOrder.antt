-- The house speaks of all tables of a label at once. Each stands, by `table_stands`, where all of them together obey its sentences.
use Prim.Native.Nat.{ℕ, zero, suc, ◌+◌, ◌≤◌, ◌<◌}
use mathlib.Core.Path.{◌≡◌, refl, sym}
use mathlib.Core.Bool.{Bool, true, false, ◌&&◌}
use mathlib.Core.List.{List, [], ◌∷◌}
use native.Mathlib.Omega.{arith}
use lib.ListN.{length, take}
use lib.Seq.{get_or-take, length-take-le}
use borrow.Author.Tests.{lt-ltb, le-leb, eq-eqb}
use Rattle.word.specs.Limits.{io_most, tables_most}
use Rattle.word.specs.Lists.{every, every_two}
use Rattle.word.proofs.Cases.{and_left, and_right, and_both}
use Rattle.word.proofs.Each.{says_two}
use Rattle.word.proofs.Every.{every-place, every_by, two_by}
use Rattle.word.proofs.First.{AllBelow, first-all}
use Rattle.word.proofs.Says.{says_lt}
use Rattle.label.specs.Tables.{TableWord, table_word, carries, rises, has_entries, entries_of, counts_of, channels_most}
use Rattle.label.specs.Tables.{within_limits, table_at, table_stands, first_table, tables_stand}
use Rattle.label.proofs.Tables.{stands_carried, stands_entries, stands_above, all_stand, stand_within, few_channels, few_io}
use Rattle.label.proofs.Tables.{few_tables}

-- "table types carried are ..", "in rising order, none twice", "none with 0 entries"
unfoldable pub in_order : List TableWord → Bool
in_order ts = every carries ts && (every_two rises ts && every has_entries ts)

-- some of the tables, from the first on, have no more entries than all
entries_fewer : (t : ℕ) (ts : List TableWord) (k : ℕ) → entries_of t (take k ts) ≤ entries_of t ts
unfolding entries_of
entries_fewer t ts zero = omega arith
entries_fewer t [] (suc k) = omega arith
entries_fewer t (x ∷ xs) (suc k) = let h = entries_fewer t xs k in omega arith

within_fewer : (ts : List TableWord) (k : ℕ) → within_limits (counts_of ts) ≡ true → within_limits (counts_of (take k ts)) ≡ true
unfolding within_limits counts_of
within_fewer ts k q =
    let a = few_channels (counts_of ts) q in
    let b = few_io (counts_of ts) q in
    let c = few_tables (counts_of ts) q in
    let e0 = entries_fewer 0 ts k in
    let e2 = entries_fewer 2 ts k in
    let e3 = entries_fewer 3 ts k in
    let e12 = entries_fewer 12 ts k in
    let d = counts_of (take k ts) in
    and_both _ _ (le-leb (d.switches + d.channels) channels_most (omega arith))
    (and_both _ _ (le-leb (d.switches + d.channels + d.units) io_most (omega arith))
    (le-leb d.tables tables_most (omega arith)))

module _ (ts : List TableWord) where
  all_in_order : AllBelow (table_stands ts) (length ts) → in_order ts ≡ true
  unfolding in_order
  all_in_order a =
      and_both _ _ (every_by (table_word 0) carries ts (λ i h. stands_carried ts i (a i h)))
      (and_both _ _
      (two_by (table_word 0) rises ts (λ i j h k. lt-ltb _ _ (stands_above ts j (a j k) i h (omega arith))))
      (every_by (table_word 0) has_entries ts (λ i h. stands_entries ts i (a i h))))

  module _ (o : in_order ts ≡ true) (w : within_limits (counts_of ts) ≡ true) where
    rest : (every_two rises ts && every has_entries ts) ≡ true
    unfolding in_order
    rest = and_right (every carries ts) _ o

    rising : (i j : ℕ) → i < j → j < length ts → (table_at ts i).type < (table_at ts j).type
    rising = (says_two (table_word 0) rises (λ x y. x.type < y.type) (λ x y. says_lt x.type y.type) ts).fact
        (and_left (every_two rises ts) _ rest)

    above-all : (j : ℕ) → j < length ts → every (λ x. rises x (table_at ts j)) (take j ts) ≡ true
    above-all j h =
        let n = length-take-le j ts (omega arith) in
        every_by (table_word 0) (λ x. rises x (table_at ts j)) (take j ts)
        (λ i k. let l : i < j = omega arith in
        rw (get_or-take j ts i (table_word 0) l) (lt-ltb (table_at ts i).type (table_at ts j).type (rising i j l h)))

    each_stands : AllBelow (table_stands ts) (length ts)
    unfolding table_stands in_order
    each_stands j h =
        and_both _ _ (every-place (table_word 0) carries ts j h (and_left (every carries ts) _ o))
        (and_both _ _ (above-all j h)
        (and_both _ _ (every-place (table_word 0) has_entries ts j h (and_right (every_two rises ts) _ rest))
        (within_fewer ts (suc j) w)))

  same_test : (a b : Bool) → (a ≡ true → b ≡ true) → (b ≡ true → a ≡ true) → a ≡ b
  same_test true b f g = sym (f refl)
  same_test false true f g = g refl
  same_test false false f g = refl

  pub stand_in_order : tables_stand ts ≡ (in_order ts && within_limits (counts_of ts))
  unfolding tables_stand first_table
  stand_in_order = same_test (tables_stand ts) (in_order ts && within_limits (counts_of ts))
      (λ q. and_both _ _ (all_in_order (all_stand ts q)) (stand_within ts q))
      (λ q. eq-eqb _ _ (first-all (table_stands ts) (length ts)
      (each_stands (and_left (in_order ts) _ q) (and_right (in_order ts) _ q))))
