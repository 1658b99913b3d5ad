-- A turn of the count: what is left then ends where it would have; and words without change.
use mathlib.Core.Path.{◌≡◌, sym, ap, ◌∙◌}
use mathlib.Core.Bool.{true}
use mathlib.Core.List.{List}
use Prim.Native.Nat.{ℕ, zero, suc, ◌+◌, ◌-◌, ◌*◌, ◌≤◌, ◌<◌}
use native.Mathlib.Omega.{arith}
use lib.ListN.{length, get_or}
use borrow.Author.Tests.{eq-eqb}
use Rattle.word.specs.Lists.{every, range}
use Rattle.word.specs.Word.{is_word}
use Rattle.indicator.specs.Indicator.{indicator_at, after_field, after_word, after_all}
use Rattle.indicator.proofs.Places.{after-all_turn, after-all_end, after_word_most}
use Rattle.indicator.specs.declared.Cursor.{Cursor}
use Rattle.indicator.specs.HowCursor.{group_bits, endless, Sees, start_cursor, place_of, past_word, refilled}
use Rattle.indicator.proofs.Reading.{start_sees, word_sees, refill_sees, sees_fewer, sees_place}

-- two 0s are a word without change
pub after-zeros : (bits : List ℕ) (p w : ℕ) → get_or bits p 0 ≡ 0 → get_or bits (p + 1) 0 ≡ 0 → after_word bits p w ≡ p + 2
unfolding after_word after_field indicator_at
after-zeros bits p w a b = rw (eq-eqb (get_or bits p 0) 0 a, eq-eqb (get_or bits (p + 1) 0) 0 b) (omega arith)

-- r such words
pub after-all_plain : (bits block : List ℕ) (r p i last : ℕ) → i + r ≤ last → last ≤ length block
    → ((q : ℕ) → p ≤ q → q < p + 2 * r → get_or bits q 0 ≡ 0)
    → after_all bits (p + 2 * r) (range block (i + r) (last - (i + r))) ≡ after_all bits p (range block i (last - i))
after-all_plain bits block zero p i last h k f =
    let a : p + 2 * 0 ≡ p = omega arith in
    let b : i + 0 ≡ i = omega arith in
    rw (a, b)
after-all_plain bits block (suc r) p i last h k f =
    let a : p + 2 * suc r ≡ p + 2 + 2 * r = omega arith in
    let b : i + suc r ≡ i + 1 + r = omega arith in
    let g = after-zeros bits p (get_or block i 0) (f p (omega arith) (omega arith)) (f (p + 1) (omega arith) (omega arith)) in
    rw (a, b)
    (after-all_plain bits block r (p + 2) (i + 1) last (omega arith) k (λ q l u. f q (omega arith) (omega arith))
    ∙ sym (after-all_turn bits p block i last (omega arith) k
    ∙ ap (λ (q : ℕ). after_all bits q (range block (i + 1) (last - (i + 1)))) g))

-- where the indicators of the words from number k of n on, read from the cursor's place, end
abbrev pub end_from : List ℕ → ℕ → Cursor → ℕ → ℕ
end_from words n c k = after_all (group_bits words n) (place_of (length words) n c) (range words k (n - k))

-- a cursor of the count before word number k: it sees the group's bits, and what is left ends where all ends
pub record Counts (words : List ℕ) (n : ℕ) (c : Cursor) (k : ℕ) : Type 0 where
  pub reach : place_of (length words) n c + 26 * (n - k) ≤ 26 * n
  pub sees : Sees words n c (place_of (length words) n c) 0
  pub ends : end_from words n c k ≡ after_all (group_bits words n) 0 (range words 0 n)

pub counts_start : (words : List ℕ) (n : ℕ) → n ≤ length words → Counts words n (start_cursor (length words) n) 0
counts_start words n inside =
    let s = start_sees words n inside in
    let e = sees_place words n (start_cursor (length words) n) 0 0 s in
    let z : n - 0 ≡ n = omega arith in
    record { reach = omega (arith, e); sees = rw e s; ends = rw (e, z) }

pub counts_end : (words : List ℕ) (n : ℕ) (c : Cursor) (k : ℕ) → n ≤ k → Counts words n c k
    → after_all (group_bits words n) 0 (range words 0 n) ≡ place_of (length words) n c
counts_end words n c k h t =
    sym t.ends ∙ after-all_end (group_bits words n) (place_of (length words) n c) words k n h

module _ (words : List ℕ) (n : ℕ) (all : every is_word words ≡ true) (few : 26 * n + 28 < endless) (c : Cursor) (k : ℕ)
    (t : Counts words n c k) where
  abbrev at : ℕ
  at = place_of (length words) n c

  pub counts_full : Sees words n (refilled words n c) at 26
  counts_full =
      sees_fewer words n (refilled words n c) at 29 26 (omega arith)
      (refill_sees words n c at t.sees (omega (arith, t.reach)) all)

  -- past one word more
  pub counts_on : n ≤ length words → k < n → Counts words n (past_word (refilled words n c) (get_or words k 0)) (k + 1)
  counts_on inside h =
      let d = past_word (refilled words n c) (get_or words k 0) in
      let s = word_sees words n inside (refilled words n c) at (get_or words k 0) counts_full in
      let e = sees_place words n d (after_word (group_bits words n) at (get_or words k 0)) 0 s in
      record {
        reach = omega (arith, e, t.reach, after_word_most (group_bits words n) at (get_or words k 0));
        sees = rw e s;
        ends = rw e (sym (after-all_turn (group_bits words n) at words k n h inside) ∙ t.ends);
      }
