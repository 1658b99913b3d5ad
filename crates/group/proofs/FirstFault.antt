-- The loop that finds the first refusal: each word before it is fine, so what is left tells it.
use Rattle.std.specs.Prelude.{Result, Ok, Err}
use mathlib.Core.Path.{◌≡◌, refl, sym, ◌∙◌}
use mathlib.Core.List.{List}
use Prim.Native.Nat.{ℕ, ◌+◌, ◌-◌, ◌≤◌, ◌<◌, ◌^◌}
use native.Mathlib.Omega.{arith}
use lib.ListN.{length, get_or}
use borrow.Author.Tests.{ltb-true}
use Rattle.word.specs.declared.Fault.{Fault}
use Rattle.word.specs.Fault.{fault, further}
use Rattle.word.specs.Lists.{range}
use Rattle.word.specs.Word.{is_word}
use Rattle.word.proofs.Lists.{length-range, range_turn, range_end}
use Rattle.word.proofs.PassedUp.{further_twice, further-none}
use Rattle.word.proofs.Says.{every-at}
use Rattle.lists.specs.declared.Given.{Given}
use Rattle.field.specs.Field.{Assignments}
use Rattle.indicator.specs.Indicator.{after_word}
use Rattle.indicator.specs.declared.Cursor.{Cursor}
use Rattle.indicator.specs.HowCursor.{group_bits, start_cursor, place_of, past_word, refilled, Sees, RefillReady, PlaceReady}
use Rattle.indicator.proofs.Reading.{sees_place, word_sees}
use Rattle.indicator.proofs.Turns.{Counts, counts_start, counts_full, counts_on}
use Rattle.group.specs.Group.{word_step, Words, then_words, changed_words}
use Rattle.group.specs.Group.Words.{Become, Refuse}
use Rattle.group.specs.HowHalves.{word_of, HalfReady}
use Rattle.group.specs.HowFaults.{fault_or, first_fault, FaultReady}
use Rattle.group.proofs.Both.{word_of_lem}
use Rattle.group.proofs.Faults.{IsOfWords, word_fault, words_fault}

-- the refusal of words from number k on, counted from number 0; and 0 where there is none
abbrev fault_from : ℕ → Words → Fault
fault_from k (Become vs) = fault 0
fault_from k (Refuse f) = further k f

from_first : (r : Words) → fault_from 0 r ≡ fault_or r
from_first (Become vs) = refl
from_first (Refuse f) = further-none f

-- a word that is fine leaves the refusal to the words after it
then_later : (k v : ℕ) (r : Words) → fault_from k (then_words (Ok v) r) ≡ fault_from (k + 1) r
then_later k v (Become vs) = refl
then_later k v (Refuse f) = further_twice k 1 f

-- the word of a refusal is one of the words
or_below : (bits : List ℕ) (p : ℕ) (ws : List ℕ) (r : Words) → IsOfWords bits p ws r → (fault_or r).word ≤ length ws
or_below bits p ws (Become vs) o = omega arith
or_below bits p ws (Refuse f) o = omega (arith, o.word)

pub first_below : (a : Assignments) (words : List ℕ) (n : ℕ) → n ≤ length words → (first_fault a words n).word ≤ n
unfolding first_fault
first_below a words n h =
    let e : length (range words 0 n) ≡ n = length-range words 0 n (omega arith) in
    omega (
      arith,
      or_below (group_bits words n) 0 (range words 0 n) (changed_words a (group_bits words n) 0 (range words 0 n))
          (words_fault a (group_bits words n) 0 (range words 0 n)),
    )

module _ (a : Assignments) (words : List ℕ) (n : ℕ) where
  -- the first refusal of the words from number k on, whose indicators come next
  abbrev later_fault : Cursor → ℕ → Fault
  later_fault c k = fault_from k (changed_words a (group_bits words n) (place_of (length words) n c) (range words k (n - k)))

  -- word number k is next, with the cursor c: no word before it is refused
  pub record Looks (c : Cursor) (k : ℕ) : Type 0 where
    pub most : k ≤ n
    pub counts : Counts words n c k
    pub same : later_fault c k ≡ first_fault a words n

  pub looks_start : n ≤ length words → Looks (start_cursor (length words) n) 0
  unfolding first_fault
  looks_start inside =
      let t = counts_start words n inside in
      let z : n - 0 ≡ n = omega arith in
      let p : place_of (length words) n (start_cursor (length words) n) ≡ 0 = omega arith in
      record {
        most = omega arith;
        counts = t;
        same = rw (z, p) (from_first (changed_words a (group_bits words n) 0 (range words 0 n)));
      }

  pub looks_end : (c : Cursor) (k : ℕ) → Looks c k → n ≤ k → fault 0 ≡ first_fault a words n
  unfolding changed_words
  looks_end c k t h = sym (rw (range_end words k n h)) ∙ t.same

  module _ (x : Given) (l : List ℕ) (ready : FaultReady x l words n) (c : Cursor) (k : ℕ) (t : Looks c k) where
    pub look_refills : RefillReady words n c
    look_refills = record {
      long = omega (arith, ready.few);
      all = ready.all;
      sees = t.counts.sees;
      near = omega (arith, t.counts.reach, ready.few, ready.program);
    }

    pub look_place : PlaceReady c (length words) n
    look_place = record {
      most = t.counts.sees.most;
      few = omega (arith, ready.few);
      left = omega (arith, t.counts.sees.left);
    }

    pub look_bit : place_of (length words) n c < 2 ^ 32
    look_bit = omega (arith, t.counts.reach, ready.few, ready.program)

    module _ (h : k < n) (full : Cursor) (e : full ≡ refilled words n c) where
      abbrev at : ℕ
      at = place_of (length words) n c

      sees : Sees words n full at 26
      sees = rw e (counts_full words n ready.all (omega (arith, ready.few, ready.program)) c k t.counts)

      pub look_ready : HalfReady x l (get_or words k 0) full 26
      look_ready = record {
        lists = ready.lists;
        word = ltb-true (get_or words k 0) (2 ^ 36) (every-at is_word words k (omega (arith, ready.program)) ready.all);
        near = sees.room;
      }

      turned : later_fault c k ≡ fault_from k (then_words (word_step a (group_bits words n) at (get_or words k 0))
          (changed_words a (group_bits words n) (after_word (group_bits words n) at (get_or words k 0))
          (range words (k + 1) (n - (k + 1)))))
      unfolding changed_words
      turned = rw (range_turn words k n h ready.program)

      module _ (r : Result ℕ Fault) (i : r ≡ word_of a at (get_or words k 0) full) where
        step : word_step a (group_bits words n) at (get_or words k 0) ≡ r
        step = sym (word_of_lem a words n ready.program full at (get_or words k 0) sees) ∙ sym i

        -- it is told of the one word
        pub look_word : (f : Fault) → r ≡ Err f → f.word < 1
        look_word f q =
            omega (arith, (rw (step ∙ q) at (word_fault a (group_bits words n) at (get_or words k 0))).in_half_lem.word)

        pub look_stops : (f : Fault) → r ≡ Err f → further k f ≡ first_fault a words n
        look_stops f q = sym (turned ∙ rw (step ∙ q)) ∙ t.same

        pub look_on : (v : ℕ) → r ≡ Ok v → Looks (past_word full (get_or words k 0)) (k + 1)
        look_on v q =
            let w = get_or words k 0 in
            let s = word_sees words n ready.program full at w sees in
            let p = sees_place words n (past_word full w) (after_word (group_bits words n) at w) 0 s in
            record {
              most = omega arith;
              counts = rw e (counts_on words n ready.all (omega (arith, ready.few, ready.program)) c k t.counts
                  ready.program h);
              same = rw p
                  (sym (turned ∙ rw (step ∙ q) (then_later k v (changed_words a (group_bits words n)
                  (after_word (group_bits words n) at w) (range words (k + 1) (n - (k + 1)))))) ∙ t.same);
            }
