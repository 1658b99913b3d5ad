-- How the code goes, not a rule of 01: what the desk keeps of the two lists that are lent to open. `HowKept.antt` says how it is
-- read.
use Rattle.std.specs.Prelude.{◌≡◌, ℕ, suc, ◌+◌, ◌-◌, ◌*◌, ◌/◌, ◌%◌, ◌^◌, ◌≤◌, Bool, true, cond, ◌&&◌, List, [], ◌∷◌, map, length, ◌==◌, nat_lt, slice_index, slice_set, Option, Some, None}
use Rattle.word.specs.Limits.{tables_most}
use Rattle.sorting.specs.Sorted.{sorted}
use Rattle.word.specs.Lists.{every, tab, splice}
use Rattle.word.specs.declared.Area.{Area}
use Rattle.lists.specs.declared.Table.{Table}
use Rattle.lists.specs.HowKept.{table_number_in}
use Rattle.lists.specs.Obey.{tables_of, lists_obey, entries_obey}

-- ---- I/O numbers
-- word i: numbers 4 i to 4 i + 3 in 16 bits each, the first lowest
unfoldable pub four_from : List ℕ → ℕ → ℕ
four_from ios i =
    slice_index ios (4 * i) % 2 ^ 16
    + slice_index ios (4 * i + 1) % 2 ^ 16 * 2 ^ 16
    + slice_index ios (4 * i + 2) % 2 ^ 16 * 2 ^ 32
    + slice_index ios (4 * i + 3) % 2 ^ 16 * 2 ^ 48

-- the first n such words; and those that are kept, with zeros where a word has room for more numbers than there are
unfoldable pub fours_kept : List ℕ → ℕ → List ℕ
fours_kept ios n = tab (four_from ios) n

unfoldable pub numbers_kept : List ℕ → List ℕ
numbers_kept ios = tab (four_from ios) ((length ios + 3) / 4)

-- ---- tables
-- table k as a word: its address in bits 63-40, its number in bits 39-20, its length in bits 19-0
abbrev pub kept_word : ℕ → Table → ℕ
kept_word k t = t.at.0 * 2 ^ 40 + k * 2 ^ 20 + t.len

-- a table for whose address and length a word has room
unfoldable pub has_room : Table → Bool
has_room t = nat_lt t.at.0 (2 ^ 24) && nat_lt t.len (2 ^ 20)

-- a table that is not empty
unfoldable pub has_words : Table → Bool
has_words t = nat_lt 0 t.len

-- the words of the tables that are not empty, where the first table's number is k
unfoldable pub words_from : ℕ → List Table → List ℕ
words_from k [] = []
words_from k (t ∷ ts) = cond (t.len == 0) (words_from (suc k) ts) (kept_word k t ∷ words_from (suc k) ts)

-- the words that are kept: rising numbers are tables by rising address
unfoldable pub words_kept : List Table → List ℕ
words_kept ts = sorted (words_from 0 ts)

-- a table's word among the ranks as if the table were empty: its address in bits 63-20, and in bits 19-0 a rank that no word has
unfoldable pub away_rank : Table → ℕ
away_rank t = t.at.0 * 2 ^ 20 + (2 ^ 20 - 1)

-- the ranks rs with the place of each word at its table's number, where the first word's place is p
unfoldable pub ranked : ℕ → List ℕ → List ℕ → List ℕ
ranked p [] rs = rs
ranked p (w ∷ ws) rs = ranked (suc p) ws (slice_set rs (table_number_in w) p)

-- the ranks that are kept
unfoldable pub ranks_kept : List Table → List ℕ
ranks_kept ts = ranked 0 (words_kept ts) (map away_rank ts)

-- ---- how a call takes the lists: as many words are kept as it says for the tables, or refusal 8 is due. The words stand at the
-- start of the stretch ws wherever each entry obeys by itself, and what follows in it is as it was
unfoldable pub lists_taken : Area → List ℕ → List ℕ → Option ℕ
lists_taken area ios tables = cond (lists_obey area ios tables) (Some (length (words_kept (tables_of tables)))) None

pub record TakesLists (area : Area) (ios tables ws : List ℕ) (r : Option ℕ) (ws' : List ℕ) : Type 0 where
  pub told : r ≡ lists_taken area ios tables
  pub words : ws' ≡ cond (entries_obey area ios tables) (splice ws 0 (words_kept (tables_of tables))) ws

-- ---- how a call keeps the ranks: the words are those that are kept for the tables ts, and among the ranks rs there is room for
-- one of each
pub record Ranking (ts : List Table) (words rs : List ℕ) : Type 0 where
  pub room : every has_room ts ≡ true
  pub few : length ts ≤ tables_most
  pub kept : words ≡ words_kept ts
  pub ranks : length ts ≤ length rs
