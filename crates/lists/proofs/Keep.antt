-- Lists that obey refusal 8 can be kept; what is kept passes the desk's test and is read as what was lent.
use Rattle.std.proofs.Common.{◌≡◌, ℕ, ◌+◌, ◌*◌, ◌/◌, ◌%◌, ◌≤◌, true, eqb, leb, List, length, ◌∙◌, arith, eqb-true, leb-true}
use Rattle.word.specs.declared.Area.{Area}
use Rattle.word.specs.Limits.{core_most, io_most, tables_most}
use Rattle.word.specs.Lists.{every, every_two, splice}
use Rattle.word.proofs.Cases.{and_left, and_right}
use Rattle.lists.specs.HowKept.{numbers_in, tables_in}
use Rattle.lists.specs.HowChain.{chain}
use Rattle.lists.specs.Obey.{tables_of, table_inside, tables_apart, tables_obey, is_io_number, lists_obey}
use Rattle.lists.specs.HowKeep.{numbers_kept, words_kept, ranks_kept, Ranking}
use Rattle.lists.proofs.Lent.{lent_length}
use Rattle.lists.proofs.Exact.{all_room, order_exact}
use Rattle.lists.proofs.Numbers.{numbers_back}
use Rattle.lists.proofs.Ranks.{copied_back}

-- what refusal 8 leaves
pub record Obeys (area : Area) (ios tables : List ℕ) : Type 0 where
  pub ios_few : length ios ≤ io_most
  pub tables_few : length (tables_of tables) ≤ tables_most
  pub pairs : length tables % 2 ≡ 0
  pub numbers : every is_io_number ios ≡ true
  pub inside : every (table_inside area) (tables_of tables) ≡ true
  pub apart : every_two tables_apart (tables_of tables) ≡ true

pub lists_obey_lem : (area : Area) (ios tables : List ℕ) → lists_obey area ios tables ≡ true → Obeys area ios tables
unfolding lists_obey tables_obey
lists_obey_lem area ios tables q =
    let a = and_right (leb (length ios) io_most) _ q in
    let b = and_right (leb (length tables) (2 * tables_most)) _ a in
    let d = and_right (eqb (length tables % 2) 0) _ b in
    let e = and_right (every is_io_number ios) _ d in
    let few = leb-true (length tables) (2 * tables_most) (and_left (leb (length tables) (2 * tables_most)) _ a) in
    let n = lent_length tables in record {
      ios_few = leb-true (length ios) io_most (and_left (leb (length ios) io_most) _ q);
      tables_few = omega arith;
      pairs = eqb-true (length tables % 2) 0 (and_left (eqb (length tables % 2) 0) _ b);
      numbers = and_left (every is_io_number ios) _ d;
      inside = and_left (every (table_inside area) (tables_of tables)) _ e;
      apart = and_right (every (table_inside area) (tables_of tables)) _ e;
    }

module _ (area : Area) (ios tables : List ℕ) (fits : area.at.0 + area.size ≤ core_most)
    (q : lists_obey area ios tables ≡ true) where
  -- what `keep_ranks` asks of the kept words and of a stretch of 128 words
  pub tables_ranking : (ws rs : List ℕ) → ws ≡ words_kept (tables_of tables) → tables_most ≤ length rs
      → Ranking (tables_of tables) ws rs
  tables_ranking ws rs e h =
      let o = lists_obey_lem area ios tables q in record {
        room = all_room area (tables_of tables) (omega arith) o.inside;
        few = o.tables_few;
        kept = e;
        ranks = omega (arith, o.tables_few);
      }

  -- the kept I/O numbers, in a stretch of 32 words
  pub numbers-copied_back : (out : List ℕ) → io_most / 4 ≤ length out → numbers_in (splice out 0 (numbers_kept ios)) (length ios) ≡ ios
  numbers-copied_back out h =
      let o = lists_obey_lem area ios tables q in numbers_back out ios (omega (arith, o.ios_few)) o.numbers

  -- the kept tables
  pub tables-copied_back : tables_in area (words_kept (tables_of tables)) (ranks_kept (tables_of tables)) ≡ tables_of tables
  tables-copied_back =
      let o = lists_obey_lem area ios tables q in
      copied_back area (tables_of tables) (omega (arith, o.tables_few)) (all_room area (tables_of tables) (omega arith) o.inside)
      o.inside

  pub kept_passes : chain area (words_kept (tables_of tables)) ≡ true
  kept_passes =
      let o = lists_obey_lem area ios tables q in
      order_exact area (tables_of tables) (omega (arith, o.tables_few)) (all_room area (tables_of tables) (omega arith) o.inside)
      o.inside ∙ o.apart
