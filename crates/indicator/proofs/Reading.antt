-- A cursor reads the indicators that specs/Indicator.antt defines, and sees on after each of its moves.
use mathlib.Core.Path.{◌≡◌, sym, ap, ◌∙◌}
use mathlib.Core.Bool.{true}
use mathlib.Core.List.{List}
use Prim.Native.Nat.{ℕ, ◌+◌, ◌-◌, ◌*◌, ◌%◌, ◌^◌, ◌≤◌, ◌<◌}
use native.Mathlib.Omega.{arith}
use lib.Dec.{ltb}
use lib.Pow.{shl_exact}
use lib.ListN.{length, get_or}
use borrow.Author.Tests.{eq-eqb, ne_eqb, lt-ltb, le-ltb, le-leb, lt-leb, ltb-true, ltb-false}
use Rattle.word.specs.declared.Half.TheVariants.{Left, Right}
use Rattle.word.specs.Lists.{every}
use Rattle.word.specs.Word.{is_word, field_of}
use Rattle.word.proofs.Cases.{by-lt, when}
use Rattle.word.proofs.Says.{every-at}
use Rattle.indicator.specs.declared.Indicator.{Indicator}
use Rattle.indicator.specs.Indicator.{InBlock, indicator_at, width_of, after_field, after_word}
use Rattle.indicator.proofs.Bits.{bits_past}
use Rattle.indicator.proofs.Places.{width_most}
use Rattle.indicator.specs.declared.Cursor.{Cursor}
use Rattle.indicator.specs.HowCursor.{group_bits, endless, beyond, Sees, start_cursor, place_of, look_of, past_bits, past_of}
use Rattle.indicator.specs.HowCursor.{past_field, past_word, refilled, plain_words, past_plain}
use Rattle.indicator.proofs.Numbers.{N, number_high, number_low, number_one, number_past, number_zero, zero_bits, bits_fewer}
use Rattle.indicator.proofs.Numbers.{number_moved, number_fewer, number_more}

pub past_left : (c : Cursor) (f : ℕ) → c.left ≤ (past_field c f).left + 13
unfolding past_field past_of
past_left c f = omega (arith, width_most (look_of c.ahead f))

-- not all words are taken, or all are
beyond-none : (n m : ℕ) → n < m → beyond n m ≡ 0
unfolding beyond
beyond-none n m l = rw (lt-leb m n l)

beyond-all : (n m : ℕ) → m ≤ n → beyond n m ≡ endless
unfolding beyond
beyond-all n m l = rw (le-leb m n l)

pub beyond_most : (n m : ℕ) → beyond n m ≤ endless
beyond_most n m = by-lt n m (λ l. omega (arith, beyond-none n m l)) (λ l. omega (arith, beyond-all n m l))

module _ (words : List ℕ) (n : ℕ) where
  pub start_sees : n ≤ length words → Sees words n (start_cursor (length words) n) 0 0
  start_sees h = record {
    few = h;
    most = omega arith;
    seen = sym (number_past words (length words) (length words - length words) 0 64 (omega arith));
    near = omega arith;
    left = omega arith;
    room = omega arith;
  }

  -- fewer bits are left as well
  pub sees_fewer : (c : Cursor) (at d e : ℕ) → e ≤ d → Sees words n c at d → Sees words n c at e
  sees_fewer c at d e h s =
      record { few = s.few; most = s.most; seen = s.seen; near = s.near; left = s.left; room = omega (arith, s.room) }

  -- the place that the code reckons
  pub sees_place : (c : Cursor) (at d : ℕ) → Sees words n c at d → place_of (length words) n c ≡ at
  sees_place c at d s = omega (arith, s.left)

  -- past k bits
  pub bits_sees : (c : Cursor) (at d k : ℕ) → Sees words n c at (k + d) → Sees words n (past_bits c k) (at + k) d
  bits_sees c at d k s = record {
    few = s.few;
    most = s.most;
    seen = rw s.seen (number_moved words (length words) (length words - c.next) at k s.near);
    near = omega (arith, s.near);
    left = omega (arith, s.left, s.room);
    room = omega (arith, s.room);
  }

  -- past an indicator
  past_sees : (c : Cursor) (at d : ℕ) (m : Indicator) → Sees words n c at (13 + d) → Sees words n (past_of c m) (at + width_of m) d
  unfolding past_of
  past_sees c at d m s = bits_sees c at d (width_of m) (sees_fewer c at (13 + d) (width_of m + d) (omega (arith, width_most m)) s)

  -- ---- one indicator word more
  module _ (c : Cursor) (at : ℕ) (s : Sees words n c at 0) (k : at + 28 < endless) where
    -- where few bits are left, there is a word more
    pub few_wants : c.left ≤ 28 → n < c.next
    few_wants h =
        by-lt n c.next (λ l. l)
        (λ g. let b = beyond-all n c.next g in absurd (omega (arith, s.left)))

    pub refill_number : c.left ≤ 28 → every is_word words ≡ true
        → c.ahead + get_or words (c.next - 1) 0 * 2 ^ (28 - c.left) % 2 ^ 64 ≡ N words (length words)
        (length words - (c.next - 1)) at 64
    refill_number h all =
        let end = length words in
        let l = few_wants h in
        let b = beyond-none n c.next l in
        let m = length words - c.next in
        let i : InBlock words end (m + 1) = record { first = omega (arith, s.most); last = omega arith } in
        let o : end - 1 - m ≡ c.next - 1 = omega (arith, s.most) in
        let g : m + 1 ≡ end - (c.next - 1) = omega (arith, s.most) in
        let w = get_or words (c.next - 1) 0 in
        let small = ltb-true w (2 ^ 36) (every-at is_word words (c.next - 1) (omega (arith, s.most)) all) in
        let whole : w % 2 ^ 36 ≡ w = omega (arith, small) in
        let x = number_more words end m i at c.left (28 - c.left) (omega (arith, s.left)) (omega arith) in
        rw (shl_exact 36 (28 - c.left) 64 small (omega arith), s.seen, ← g) (rw (o, whole) at x)

    -- 29 bits; a program word needs 26 at most
    pub refill_sees : every is_word words ≡ true → Sees words n (refilled words n c) at 29
    unfolding refilled
    refill_sees all =
        when (λ (x : Cursor). Sees words n x at 29) (ltb 28 c.left)
        (λ r. record {
          few = s.few;
          most = s.most;
          seen = s.seen;
          near = s.near;
          left = s.left;
          room = omega (arith, ltb-true 28 c.left r);
        })
        (λ r.
        let h = ltb-false 28 c.left r in
        let l = few_wants h in
        let b = beyond-none n c.next l in
        record {
          few = omega arith;
          most = omega (arith, s.most);
          seen = refill_number h all;
          near = omega (arith, s.left, s.most);
          left = omega (arith, s.left, s.most);
          room = omega arith;
        })

  module _ (inside : n ≤ length words) where
    all_in : InBlock words (length words) (length words - n)
    all_in = record { first = omega arith; last = omega arith }

    -- the bits at hand are the group's
    same_number : (c : Cursor) (at d p k : ℕ) → Sees words n c at d → p + k ≤ at + d
        → N words (length words) (length words - c.next) p k ≡ N words (length words) (length words - n) p k
    same_number c at d p k s l =
        by-lt n c.next
        (λ g.
        let b = beyond-none n c.next g in
        number_fewer words (length words) (length words - n) all_in (length words - c.next) p k (omega (arith, s.few))
        (omega (arith, s.left, s.room)))
        (λ g.
        let e : c.next ≡ n = omega (arith, s.few) in
        ap (λ (x : ℕ). N words (length words) (length words - x) p k) e)

    -- what the cursor shows next is the indicator at its place
    pub look_is : (c : Cursor) (at d f : ℕ) → Sees words n c at (13 + d)
        → indicator_at (group_bits words n) at f ≡ look_of c.ahead f
    unfolding indicator_at look_of
    look_is c at d f s =
        let end = length words in
        let m = length words - c.next in
        let b = sym (number_one words end (end - n) at) ∙ sym (same_number c at (13 + d) at 1 s (omega arith))
        ∙ sym (number_high words end m at 1 63) in
        let t = sym (same_number c at (13 + d) (at + 1) 3 s (omega arith)) ∙ sym (number_low words end m at 1 3)
        ∙ ap (λ (x : ℕ). x % 8) (sym (number_high words end m at 4 60)) in
        let x = sym (same_number c at (13 + d) (at + 4) 9 s (omega arith)) ∙ sym (number_low words end m at 4 9)
        ∙ ap (λ (x : ℕ). x % 512) (sym (number_high words end m at 13 51)) in
        rw (t, x, s.seen)
        (by-lt (N words end m at 64) (2 ^ 63)
        (λ l. rw (lt-ltb (N words end m at 64) (2 ^ 63) l, eq-eqb (get_or (group_bits words n) at 0) 0 (omega (arith, b))))
        (λ g.
        rw (le-ltb (N words end m at 64) (2 ^ 63) g, ne_eqb (get_or (group_bits words n) at 0) 0 (λ e. omega (arith, b)))))

    pub field_sees : (c : Cursor) (at d f : ℕ) → Sees words n c at (13 + d)
        → Sees words n (past_field c f) (after_field (group_bits words n) at f) d
    unfolding past_field after_field
    field_sees c at d f s = rw (look_is c at d f s) (past_sees c at d (look_of c.ahead f) s)

    pub word_sees : (c : Cursor) (at w : ℕ) → Sees words n c at 26
        → Sees words n (past_word c w) (after_word (group_bits words n) at w) 0
    unfolding past_word after_word
    word_sees c at w s =
        field_sees (past_field c (field_of Left w)) (after_field (group_bits words n) at (field_of Left w)) 0 (field_of Right w)
        (field_sees c at 13 (field_of Left w) s)

    -- ---- where the bits at hand are all 0
    module _ (c : Cursor) (at : ℕ) (s : Sees words n c at 26) (z : c.ahead ≡ 0) where
      -- so is every bit from there on of the words taken
      all-zero : (p : ℕ) → at ≤ p → get_or (group_bits words c.next) p 0 ≡ 0
      all-zero p l =
          let m = length words - c.next in
          let e : at + (p - at) ≡ p = omega arith in
          by-lt (p - at) 64
          (λ b. sym (ap (λ (x : ℕ). get_or (group_bits words c.next) x 0) e)
          ∙ zero_bits words (length words) m at 64 (p - at) (sym s.seen ∙ z) b)
          (λ g. bits_past words (length words) m p (omega (arith, s.near)))

      -- r words without change: the bits there are 0s, and the cursor sees on
      module _ (r : ℕ) (l : 2 * r ≤ c.left) where
        pub plain_bits : (q : ℕ) → at ≤ q → q < at + 2 * r → get_or (group_bits words n) q 0 ≡ 0
        plain_bits q g u =
            by-lt n c.next
            (λ h.
            let b = beyond-none n c.next h in
            sym (bits_fewer words (length words) (length words - n) all_in (length words - c.next) q (omega (arith, s.few))
            (omega (arith, s.left)))
            ∙ all-zero q g)
            (λ h.
            let e : c.next ≡ n = omega (arith, s.few) in
            sym (ap (λ (x : ℕ). get_or (group_bits words x) q 0) e) ∙ all-zero q g)

        pub plain_sees : Sees words n (past_plain c r) (at + 2 * r) 0
        plain_sees = record {
          few = s.few;
          most = s.most;
          seen = sym (number_zero words (length words) (length words - c.next) (at + 2 * r) 64 (λ q g. all-zero q (omega arith)));
          near = omega (arith, s.near);
          left = omega (arith, s.left);
          room = omega arith;
        }

-- as many words without change as the bits at hand tell, and one at least
pub plain_words_lem : (c : Cursor) (most : ℕ) → 26 ≤ c.left → 0 < most
    → (0 < plain_words c most) × (plain_words c most ≤ most) × (2 * plain_words c most ≤ c.left)
unfolding plain_words
plain_words_lem c most h k = (omega arith, omega arith, omega arith)
