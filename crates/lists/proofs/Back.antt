-- The lists that are lent to open, written into the numbers of a load's lists part after part, and read back.
use Rattle.std.proofs.Common.{◌≡◌, ℕ, ◌+◌, ◌≤◌, true, List, ◌++◌, length, take, drop, ◌∙◌, arith}
use Rattle.word.specs.Limits.{core_most}
use Rattle.word.specs.declared.Area.{Area}
use Rattle.word.specs.Lists.{range, splice}
use Rattle.word.proofs.Lists.{length-splice, length-range, range-splice-same, range-splice-before, range-splice_inner, splice-lent}
use Rattle.lists.specs.HowKeep.{numbers_kept, words_kept, ranks_kept}
use Rattle.lists.specs.Obey.{tables_of, lists_obey}
use Rattle.lists.specs.Load.{kept_lists, ios_in, words_in, ranks_in, core_tables, io_numbers, io_words}
use Rattle.lists.specs.Load.{words_place, ranks_place, list_words, ReadsBack}
use Rattle.lists.proofs.Keep.{lists_obey_lem, numbers-copied_back, tables-copied_back}
use Rattle.lists.proofs.Numbers.{numbers-kept-length}
use Rattle.lists.proofs.Ranks.{words_few, ranks_length}

-- an array that begins with vs, lent as far as vs goes
pub lent_start : (l vs ws : List ℕ) (n : ℕ) → ws ≡ splice l 0 vs → n ≡ length vs → length vs ≤ length l → take n ws ≡ vs
unfolding range
lent_start l vs ws n e k h = rw (e, k) (range-splice-same l 0 vs (omega arith))

module _ (area : Area) (ios tables l : List ℕ) (small : area.at.0 + area.size ≤ core_most)
    (obey : lists_obey area ios tables ≡ true)
    (long : length l ≡ list_words) where
  abbrev numbers : List ℕ
  numbers = numbers_kept ios

  abbrev ws : List ℕ
  ws = words_kept (tables_of tables)

  abbrev rs : List ℕ
  rs = ranks_kept (tables_of tables)

  pub numbers_few : length numbers ≤ io_words
  numbers_few = let o = lists_obey_lem area ios tables obey in omega (arith, numbers-kept-length ios, o.ios_few)

  pub words_most : length ws ≤ 128
  words_most = let o = lists_obey_lem area ios tables obey in omega (arith, words_few (tables_of tables), o.tables_few)

  pub ranks_most : length rs ≤ 128
  ranks_most = let o = lists_obey_lem area ios tables obey in omega (arith, ranks_length (tables_of tables), o.tables_few)

  pub long_1 : length (splice l 0 numbers) ≡ list_words
  long_1 = length-splice l 0 numbers (omega (arith, numbers_few)) ∙ long

  pub long_2 : length (splice (splice l 0 numbers) words_place ws) ≡ list_words
  long_2 = length-splice (splice l 0 numbers) words_place ws (omega (arith, words_most, long_1)) ∙ long_1

  pub kept-long : length (kept_lists ios tables l) ≡ list_words
  unfolding kept_lists
  kept-long = length-splice (splice (splice l 0 numbers) words_place ws) ranks_place rs (omega (arith, ranks_most, long_2)) ∙ long_2

  kept_ranks : ranks_in (kept_lists ios tables l) (length (tables_of tables)) ≡ rs
  unfolding kept_lists ranks_in
  kept_ranks =
      rw (← ranks_length (tables_of tables))
      (range-splice-same (splice (splice l 0 numbers) words_place ws) ranks_place rs (omega (arith, ranks_most, long_2)))

  pub kept_words_lem : words_in (kept_lists ios tables l) (length ws) ≡ ws
  unfolding kept_lists words_in
  kept_words_lem =
      range-splice-before (splice (splice l 0 numbers) words_place ws) ranks_place rs words_place (length ws)
      (omega (arith, words_most)) (omega (arith, ranks_most, long_2))
      ∙ range-splice-same (splice l 0 numbers) words_place ws (omega (arith, words_most, long_1))

  kept-numbers : ios_in (kept_lists ios tables l) ≡ splice (range l 0 io_words) 0 numbers
  unfolding kept_lists ios_in
  kept-numbers =
      range-splice-before (splice (splice l 0 numbers) words_place ws) ranks_place rs 0 io_words (omega arith)
      (omega (arith, ranks_most, long_2))
      ∙ range-splice-before (splice l 0 numbers) words_place ws 0 io_words (omega arith) (omega (arith, words_most, long_1))
      ∙ range-splice_inner l 0 io_words 0 numbers (omega arith) (omega (arith, numbers_few))

  pub kept_back : ReadsBack area ios tables l
  unfolding core_tables io_numbers
  kept_back =
      rw (kept_words_lem, kept_ranks, kept-numbers)
      (rw (
        tables-copied_back area ios tables small obey,
        numbers-copied_back area ios tables small obey (range l 0 io_words) (omega (arith, length-range l 0 io_words (omega arith))),
      ))

  -- the three parts as the code writes them
  pub lists_written : (e f w k n : List ℕ) → w ≡ ws → n ≡ numbers → e ≡ splice l 0 n → f ≡ splice e words_place w
      → k ≡ splice (take 128 (drop ranks_place f)) 0 rs
      → take ranks_place f ++ (k ++ drop 128 (drop ranks_place f)) ≡ kept_lists ios tables l
  unfolding kept_lists
  lists_written e f w k n cw cn ce cf ck =
      let h : f ≡ splice (splice l 0 numbers) words_place ws = cf ∙ rw (ce, cn, cw) in
      rw (ck, h) (splice-lent (splice (splice l 0 numbers) words_place ws) ranks_place 128 rs (omega (arith, long_2)) ranks_most)
