-- A word's two halves: what the code gives, half after half, is what `word_step` says; and the commonest change at once.
use Rattle.std.specs.Prelude.{Result, Ok, Err, Option, Some, None}
use mathlib.Core.Path.{◌≡◌, refl, sym, ap, ◌∙◌}
use mathlib.Core.Bool.{Bool, true, false, cond}
use mathlib.Core.List.{List}
use Prim.Native.Nat.{ℕ, ◌+◌, ◌-◌, ◌*◌, ◌/◌, ◌%◌, ◌≤◌, ◌<◌, ◌^◌}
use native.Mathlib.Omega.{arith}
use lib.Dec.{ltb}
use lib.ListN.{length}
use borrow.Author.Tests.{lt-ltb, le-ltb, eqb-true}
use Rattle.word.specs.declared.Fault.{Fault}
use Rattle.word.specs.declared.Half.{Half}
use Rattle.word.specs.declared.Half.TheVariants.{Left, Right}
use Rattle.word.specs.Sorts.{absolute_of}
use Rattle.word.specs.Word.{bits, field_of, field_stored}
use Rattle.word.proofs.Cases.{by-lt, by-test}
use Rattle.field.specs.declared.Stepped.{Stepped}
use Rattle.field.specs.Field.{Assignments, relative, valued, moved_field, becomes, put_back, field_change, told_in, field_step}
use Rattle.field.specs.HowField.{is_long, stepped}
use Rattle.field.proofs.Field.{word_told, told_anew, step_word, step_across, step_short, step_two}
use Rattle.indicator.specs.declared.Indicator.{Indicator}
use Rattle.indicator.specs.declared.Indicator.TheVariants.{Same, Change, Long}
use Rattle.indicator.specs.declared.Cursor.{Cursor}
use Rattle.indicator.specs.Indicator.{width_of, indicator_at, after_field}
use Rattle.indicator.specs.HowCursor.{group_bits, Sees, look_of, past_bits, past_of, past_field, past_word}
use Rattle.indicator.proofs.Reading.{look_is, field_sees}
use Rattle.group.specs.Group.{half_step, then_half, word_step}
use Rattle.group.specs.HowHalves.{onward, half_of, then_right, both_of, word_of, passed_bits, is_moved, moved_word}

-- of the bits 01000 the first tells no change, the others type 000
look_same : (x f : ℕ) → x / 576460752303423488 ≡ 8 → look_of x f ≡ Same
unfolding look_of
look_same x f e = rw (lt-ltb x 9223372036854775808 (omega arith))

look_moved : (x f : ℕ) → x / 576460752303423488 ≡ 8 → look_of (x * 2 % 18446744073709551616) f ≡ Change 0
unfolding look_of
look_moved x f e =
    let y = x * 2 % 18446744073709551616 in
    let t : y / 1152921504606846976 % 8 ≡ 0 = omega arith in
    rw (le-ltb y 9223372036854775808 (omega arith), t)

-- of the bits 00 neither tells a change
look_first : (x f : ℕ) → x < 4611686018427387904 → look_of x f ≡ Same
unfolding look_of
look_first x f e = rw (lt-ltb x 9223372036854775808 (omega arith))

look_second : (x f : ℕ) → x < 4611686018427387904 → look_of (x * 2 % 18446744073709551616) f ≡ Same
unfolding look_of
look_second x f e = rw (lt-ltb (x * 2 % 18446744073709551616) 9223372036854775808 (omega arith))

-- where nothing is told of a refusal, its place does not matter
onward-told : (h : Half) (p : ℕ) (r : Result ℕ Fault) (next : ℕ → Option (ℕ × Cursor)) → onward (told_in h p r) next ≡ onward r next
onward-told h p (Ok v) next = refl
onward-told h p (Err f) next = refl

-- the word and the cursor that stand together
pub some_parts : (u v : ℕ) (e d : Cursor) → ◌≡◌ {A = Option (ℕ × Cursor)} (Some (u, e)) (Some (v, d))
    → (u ≡ v) × (e ≡ d)
some_parts u v e d q =
    let x : ℕ × Cursor = (u, e) in
    let y : ℕ × Cursor = (v, d) in
    let p : x ≡ y = cc in
    (ap (λ (s : ℕ × Cursor). s.0) p, ap (λ (s : ℕ × Cursor). s.1) p)

module _ (a : Assignments) where
  -- ---- one half

  -- a word stays a word
  pub half_word : (h : Half) (p : ℕ) (m : Indicator) (w u : ℕ) → w < 2 ^ 36 → half_step a h p m w ≡ Ok u → u < 2 ^ 36
  unfolding half_step field_step
  half_word h p Same w u b e = let q : w ≡ u = cc in rw q at b
  half_word h p (Change t) w u b e = step_word a h t w 0 u (word_told h p (field_change a h t w 0) u e) b
  half_word h p (Long x) w u b e = step_word a h 2 w x u (word_told h p (field_change a h 2 w x) u e) b

  -- a left half leaves the right field as it is
  half_across : (p : ℕ) (m : Indicator) (w u : ℕ) → half_step a Left p m w ≡ Ok u → field_of Right u ≡ field_of Right w
  unfolding half_step field_step
  half_across p Same w u e = let q : w ≡ u = cc in rw q
  half_across p (Change t) w u e = step_across a Left t w 0 u (word_told Left p (field_change a Left t w 0) u e)
  half_across p (Long x) w u e = step_across a Left 2 w x u (word_told Left p (field_change a Left 2 w x) u e)

  -- with its indicator at another place, a half gives the same but for the place told
  half_told : (h : Half) (p q : ℕ) (m : Indicator) (w : ℕ) → half_step a h p m w ≡ told_in h p (half_step a h q m w)
  unfolding half_step field_step
  half_told h p q Same w = refl
  half_told h p q (Change t) w = sym (told_anew h p q (field_change a h t w 0))
  half_told h p q (Long x) w = sym (told_anew h p q (field_change a h 2 w x))

  -- the code's two ways: no change, or a field step by the type and the nine bits more that come next
  module _ (h : Half) (w : ℕ) (c : Cursor) where
    pub half_same : c.ahead < 2 ^ 63 → half_of a h w c ≡ Some (w, past_bits c 1)
    unfolding half_of half_step look_of past_field past_of
    half_same l = rw (lt-ltb c.ahead (2 ^ 63) l)

    step_passed : (long : Bool) (r : Result ℕ Fault)
        → passed_bits (past_bits c 4) (stepped long r) ≡ onward r (λ v. Some (v, cond long (past_bits c 13) (past_bits c 4)))
    step_passed true (Ok v) =
        let i : c.left - 4 - 9 ≡ c.left - 13 = omega arith in
        let j : c.ahead * 16 % 18446744073709551616 * 512 % 18446744073709551616
        ≡ c.ahead * 8192 % 18446744073709551616 = omega arith in
        rw (i, j)
    step_passed false (Ok v) = refl
    step_passed true (Err f) = refl
    step_passed false (Err f) = refl

    pub half_steps : (t x : ℕ) (r : Option Stepped) → 2 ^ 63 ≤ c.ahead → t ≡ bits 62 60 c.ahead → x ≡ bits 59 51 c.ahead
        → r ≡ stepped (is_long t (field_of h w)) (field_change a h t w x) → passed_bits (past_bits c 4) r ≡ half_of a h w c
    unfolding half_of half_step look_of past_field past_of field_step
    half_steps t x r g i j e =
        rw (e, step_passed (is_long t (field_of h w)) (field_change a h t w x), le-ltb c.ahead (2 ^ 63) g, ← i, ← j)
        (by-test (is_long t (field_of h w))
        (λ q. rw (q, step_two t (field_of h w) q) (sym (onward-told h 0 (field_change a h 2 w x) _)))
        (λ q. rw (q, step_short a h t w x q) (sym (onward-told h 0 (field_change a h t w 0) _))))

  -- ---- both halves
  half_next : (h : Half) (w : ℕ) (c : Cursor) (v : ℕ) (d : Cursor) → half_of a h w c ≡ Some (v, d)
      → (half_step a h 0 (look_of c.ahead (field_of h w)) w ≡ Ok v) × (d ≡ past_field c (field_of h w))
  unfolding half_of
  half_next h w c v d = given (half_step a h 0 (look_of c.ahead (field_of h w)) w)
    where
      given : (r : Result ℕ Fault) → onward r (λ u. Some (u, past_field c (field_of h w))) ≡ Some (v, d) → (r ≡ Ok v)
          × (d ≡ past_field c (field_of h w))
      given (Ok u) q = let p = some_parts u v (past_field c (field_of h w)) d q in (ap Ok p.0, sym p.1)
      given (Err f) q = let z : ◌≡◌ {A = ℕ} 0 1 = cc in absurd (omega arith)

  -- a half's word and cursor are such again
  pub half_fits : (h : Half) (w : ℕ) (c : Cursor) (v : ℕ) (d : Cursor) → w < 2 ^ 36 → half_of a h w c ≡ Some (v, d) → v < 2 ^ 36
  half_fits h w c v d b q = half_word h 0 (look_of c.ahead (field_of h w)) w v b (half_next h w c v d q).0

  pub half_reach : (h : Half) (w : ℕ) (c : Cursor) (v : ℕ) (d : Cursor) → half_of a h w c ≡ Some (v, d) → d ≡ past_field c (field_of h w)
  half_reach h w c v d q = (half_next h w c v d q).1

  -- one half and then the other, where the refusal is wanted
  module _ (p w : ℕ) (c : Cursor) (m : Indicator) (e : m ≡ look_of c.ahead (field_of Left w)) where
    pub word_goes : (v : ℕ) (d : Cursor) (k : Indicator) (r : Result ℕ Fault) → half_step a Left p m w ≡ Ok v → d ≡ past_of c m
        → k ≡ look_of d.ahead (field_of Right w) → r ≡ half_step a Right (p + width_of m) k v → r ≡ word_of a p w c
    unfolding word_of past_field
    word_goes v d k r q i j o = rw (← e, q, ← i, ← j) o

    pub word_stops : (f : Fault) → half_step a Left p m w ≡ Err f → Err f ≡ word_of a p w c
    unfolding word_of
    word_stops f q = rw (← e, q)

  -- where the cursor sees a group's bits at place `at`, these are its halves' indicators
  module _ (words : List ℕ) (n : ℕ) (inside : n ≤ length words) (c : Cursor) (at w : ℕ) (s : Sees words n c at 26) where
    abbrev left_field : ℕ
    left_field = field_of Left w

    abbrev past_left : Cursor
    past_left = past_field c (field_of Left w)

    -- the right half's indicator, told by the left one's width
    look_left : look_of c.ahead left_field ≡ indicator_at (group_bits words n) at left_field
    look_left = sym (look_is words n inside c at 13 left_field s)

    look_right : look_of past_left.ahead (field_of Right w)
        ≡ indicator_at (group_bits words n) (after_field (group_bits words n) at left_field) (field_of Right w)
    look_right =
        sym (look_is words n inside past_left (after_field (group_bits words n) at left_field) 0 (field_of Right w)
        (field_sees words n inside c at 13 left_field s))

    after-left : at + width_of (look_of c.ahead left_field) ≡ after_field (group_bits words n) at left_field
    unfolding after_field
    after-left = ap (λ (m : Indicator). at + width_of m) look_left

    pub word_of_lem : word_of a at w c ≡ word_step a (group_bits words n) at w
    unfolding word_of word_step
    word_of_lem = λ i. then_half (half_step a Left at (look_left i) w) (half_step a Right (after-left i) (look_right i))

    pub both_word : both_of a w c ≡ onward (word_step a (group_bits words n) at w) (λ v. Some (v, past_word c w))
    unfolding both_of half_of word_of past_word
    both_word =
        rw (sym word_of_lem, half_told Left at 0 (look_of c.ahead left_field) w)
        (given (half_step a Left 0 (look_of c.ahead left_field) w) refl)
      where
        q : ℕ
        q = at + width_of (look_of c.ahead left_field)

        given : (r : Result ℕ Fault) → half_step a Left 0 (look_of c.ahead left_field) w ≡ r
            → then_right a (onward r (λ v. Some (v, past_left)))
            ≡ onward (then_half (told_in Left at r) (half_step a Right q (look_of past_left.ahead (field_of Right w))))
            (λ v. Some (v, past_field past_left (field_of Right w)))
        given (Ok v) e =
            rw (half_across 0 (look_of c.ahead left_field) w v e, half_told Right q 0 (look_of past_left.ahead (field_of Right w)) v)
            (sym (onward-told Right q (half_step a Right 0 (look_of past_left.ahead (field_of Right w)) v) _))
        given (Err x) e = refl

  -- ---- the bits 01000
  moved_field_lem : (w : ℕ)
      → half_step a Right 0 (Change 0) w
      ≡ told_in Right 0 (put_back 0 16 w (valued (absolute_of a.area (relative (field_of Right w))).0))
  unfolding half_step field_step field_change becomes moved_field
  moved_field_lem w = refl

  moved_right : (w v : ℕ) (d : Cursor)
      → onward (put_back 0 16 w (valued v)) (λ u. Some (u, d)) ≡ cond (ltb v 65536) (Some (field_stored Right w v, d)) None
  unfolding put_back valued
  moved_right w v d = by-lt v 65536 (λ l. rw (lt-ltb v 65536 l)) (λ l. rw (le-ltb v 65536 l))

  pub moved_both : (w : ℕ) (c : Cursor) → is_moved c ≡ true → both_of a w c ≡ moved_word a.area w c
  unfolding both_of half_of half_step moved_word past_field past_of
  moved_both w c q =
      let e = eqb-true (c.ahead / 576460752303423488) 8 q in
      let i : c.left - 1 - 4 ≡ c.left - 5 = omega arith in
      let j : c.ahead * 2 % 18446744073709551616 * 16 % 18446744073709551616
      ≡ c.ahead * 32 % 18446744073709551616 = omega arith in
      rw (look_same c.ahead (field_of Left w) e, look_moved c.ahead (field_of Right w) e, i, j)
      (ap (λ (r : Result ℕ Fault). onward r (λ v. Some (v, past_bits c 5))) (moved_field_lem w)
      ∙ onward-told Right 0 (put_back 0 16 w (valued (absolute_of a.area (relative (field_of Right w))).0)) _
      ∙ moved_right w (absolute_of a.area (relative (field_of Right w))).0 (past_bits c 5))

  -- ---- the bits 00
  pub plain_both : (w : ℕ) (c : Cursor) → c.ahead < 4611686018427387904 → both_of a w c ≡ Some (w, past_bits c 2)
  unfolding both_of half_of half_step past_field past_of
  plain_both w c l =
      let i : c.left - 1 - 1 ≡ c.left - 2 = omega arith in
      let k : c.ahead * 2 % 18446744073709551616 ≡ c.ahead * 2 = omega arith in
      let j : c.ahead * 2 * 2 ≡ c.ahead * 4 = omega arith in
      rw (look_first c.ahead (field_of Left w) l, look_second c.ahead (field_of Right w) l, i, k, j)
