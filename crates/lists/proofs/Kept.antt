-- What is read of the kept lists: how many there are, each by its number, and no number is too large.
use Rattle.std.proofs.Common.{◌≡◌, ℕ, ◌+◌, ◌*◌, ◌/◌, ◌%◌, ◌^◌, ◌<◌, ◌≤◌, true, eqb, ltb, List, length, get_or, arith, lt-ltb}
use lib.ListN.{get_or-eq_default}
use Rattle.word.specs.declared.Area.{Area}
use Rattle.word.specs.declared.Absolute.{Absolute}
use Rattle.word.proofs.Word.{part_below}
use Rattle.word.specs.Runs.{within}
use Rattle.word.proofs.Says.{says_within}
use Rattle.word.specs.Lists.{every}
use Rattle.word.proofs.Cases.{both, when}
use Rattle.word.proofs.Every.{every_by}
use Rattle.lists.specs.declared.Table.{Table}
use Rattle.word.proofs.Lists.{length-tab, get_d_tab}
use Rattle.lists.specs.HowKept.{number_in, numbers_in, rank_in, away_in, table_number_in, table_of, empty_in, table_by, table_at}
use Rattle.lists.specs.HowKept.{tables_in}
use Rattle.lists.specs.Obey.{is_io_number}

-- I/O numbers
pub numbers-length : (ws : List ℕ) (n : ℕ) → length (numbers_in ws n) ≡ n
unfolding numbers_in
numbers-length ws n = length-tab (number_in ws) n

pub numbers-at : (ws : List ℕ) (n k : ℕ) → k < n → get_or (numbers_in ws n) k 0 ≡ number_in ws k
unfolding numbers_in
numbers-at ws n k h = get_d_tab (number_in ws) n k 0 h

pub numbers_past : (ws : List ℕ) (n k : ℕ) → n ≤ k → get_or (numbers_in ws n) k 0 ≡ 0
numbers_past ws n k h = let e = numbers-length ws n in get_or-eq_default (numbers_in ws n) 0 (omega arith)

io_below : (ws : List ℕ) (k : ℕ) → number_in ws k < 2 ^ 16
unfolding number_in
io_below ws k = part_below (16 * (k % 4)) 16 (get_or ws (k / 4) 0)

-- refusal 8, "an I/O number over 65,535": none is read, whatever is kept
pub numbers_obey : (ws : List ℕ) (n : ℕ) → every is_io_number (numbers_in ws n) ≡ true
numbers_obey ws n =
    every_by 0 is_io_number (numbers_in ws n)
    (λ i h. let e = numbers-length ws n in rw (numbers-at ws n i (omega arith)) (lt-ltb (number_in ws i) (2 ^ 16) (io_below ws i)))

-- core tables
abbrev pub SmallTable : Table → Type 0
SmallTable t = (t.at.0 < 2 ^ 24) × (t.len < 2 ^ 20)

of_below : (w : ℕ) → SmallTable (table_of w)
unfolding table_of
of_below w = (part_below 40 24 w, part_below 0 20 w)

empty_below : (area : Area) (a : ℕ) → area.at.0 + area.size < 2 ^ 24 → SmallTable (empty_in area a)
unfolding empty_in
empty_below area a h =
    let s = says_within a 0 area.at.0 area.size in (
      when (λ (x : Absolute). x.0 < 2 ^ 24) (within a 0 area.at.0 area.size)
          (λ q. let g = s.fact q in omega arith)
          (λ q. omega arith),
      omega arith,
    )

module _ (area : Area) (ws rs : List ℕ) where
  pub tables-length : length (tables_in area ws rs) ≡ length rs
  unfolding tables_in
  tables-length = length-tab (table_at area ws rs) (length rs)

  pub tables-at : (k : ℕ) (d : Table) → k < length rs → get_or (tables_in area ws rs) k d ≡ table_at area ws rs k
  unfolding tables_in
  tables-at k d h = get_d_tab (table_at area ws rs) (length rs) k d h

  -- where the area ends below 2^24, no table starts or ends so far up that a sum with it could wrap
  pub table_below : (k : ℕ) → area.at.0 + area.size < 2 ^ 24 → SmallTable (table_at area ws rs k)
  unfolding table_at table_by
  table_below k h =
      let r = get_or rs k 0 in
      let w = get_or ws (rank_in r) 0 in
      both SmallTable (ltb (rank_in r) (length ws))
      (both SmallTable (eqb (table_number_in w) k) (of_below w) (empty_below area (away_in r) h))
      (empty_below area (away_in r) h)
