-- The loop over a group's program words, which are changed and stored into the core: what is left to do after some steps is what
-- there was to do.
use Rattle.std.specs.Prelude.{Result, Ok, Err, Option, Some, None}
use mathlib.Core.Path.{◌≡◌, refl, sym, ap, ◌∙◌}
use mathlib.Core.Logic.{inl, inr, ⊎_elim}
use mathlib.Core.List.{List, [], ◌∷◌}
use mathlib.Core.Bool.{true}
use Prim.Native.Nat.{ℕ, zero, suc, ◌+◌, ◌-◌, ◌*◌, ◌<◌, ◌≤◌}
use native.Mathlib.Omega.{arith}
use lib.Dec.{eqb}
use lib.ListN.{length, get_or, set, length-set}
use lib.Seq.{take-length}
use borrow.Author.Tests.{eq-eqb, eqb-true}
use Rattle.word.specs.declared.Fault.{Fault}
use Rattle.word.specs.Lists.{every, range, splice}
use Rattle.word.specs.Word.{is_word}
use Rattle.word.proofs.Cases.{by-test}
use Rattle.word.proofs.Lists.{length-range, length-splice, range_turn, range_end, splice-whole}
use Rattle.word.proofs.PassedUp.{further_twice, further-none}
use Rattle.word.proofs.Stretch.{splice-none, splice-first}
use Rattle.field.specs.Field.{Assignments}
use Rattle.indicator.specs.Indicator.{indicator_at, after_field, after_word, after_all}
use Rattle.indicator.specs.declared.Cursor.{Cursor}
use Rattle.indicator.specs.HowCursor.{group_bits, endless, Sees, start_cursor, place_of, past_word, refilled, plain_words, past_plain}
use Rattle.indicator.proofs.Places.{after_word_most}
use Rattle.indicator.proofs.Reading.{start_sees, sees_place, sees_fewer, word_sees, refill_sees}
use Rattle.indicator.proofs.Reading.{plain_bits, plain_sees, plain_words_lem}
use Rattle.indicator.proofs.Turns.{after-zeros, after-all_plain}
use Rattle.group.specs.declared.changes.Progress.{Progress}
use Rattle.group.specs.Group.{half_step, word_step, Words, then_words, changed_words}
use Rattle.group.specs.Group.Words.{Become, Refuse}
use Rattle.group.specs.HowHalves.{onward, both_of}
use Rattle.group.specs.HowLoop.{Refuses, onto, become_from, Reached}
use Rattle.group.specs.HowWords.{Step, Steps, stored_step, plain_step, NextSteps, unchanged_step, bits_or, Became, Changes}
use Rattle.group.proofs.Both.{some_parts, both_word, plain_both}
use Rattle.group.proofs.Words.{Many, changed-many}

-- ---- what a word's two halves gave
onward_next : (r : Result ℕ Fault) (e : Cursor) (v : ℕ) (d : Cursor) → onward r (λ u. Some (u, e)) ≡ Some (v, d) → (r ≡ Ok v) × (d ≡ e)
onward_next (Ok u) e v d q = let p = some_parts u v e d q in (ap Ok p.0, sym p.1)
onward_next (Err f) e v d q = let z : ◌≡◌ {A = ℕ} 0 1 = cc in absurd (omega arith)

onward_stop : (r : Result ℕ Fault) (e : Cursor) (rest : Words) → onward r (λ u. Some (u, e)) ≡ None → Refuses (then_words r rest)
onward_stop (Ok u) e rest q = let z : ◌≡◌ {A = ℕ} 0 1 = cc in absurd (omega arith)
onward_stop (Err x) e rest q = tt

-- ---- what the words become, onto the core's words
onto-first : (out : List ℕ) (k v : ℕ) (r : Words) → k < length out
    → onto out k (then_words (Ok v) r) ≡ onto (set out k v) (k + 1) r
unfolding onto
onto-first out k v (Become vs) h = ap Become (splice-first out k v vs h)
onto-first out k v (Refuse f) h = ap Refuse (further_twice k 1 f)

onto-whole : (out : List ℕ) (r : Words) → Many (length out) r → onto out 0 r ≡ r
unfolding onto
onto-whole out (Become vs) m = ap Become (splice-whole out vs m)
onto-whole out (Refuse f) m = ap Refuse (further-none f)

onto_refuses : (out : List ℕ) (k : ℕ) (r : Words) → Refuses r → Refuses (onto out k r)
unfolding onto
onto_refuses out k (Become vs) x = x
onto_refuses out k (Refuse f) x = tt

-- a refusal is told as one, and nothing is said of the words
pub refusal-told : (r : Words) (n : ℕ) → Refuses r → None ≡ bits_or r n
refusal-told (Become vs) n x = absurd x
refusal-told (Refuse f) n x = refl

pub refusal-left : (out : List ℕ) (r : Words) → Refuses r → Became out r
refusal-left out (Become vs) x = absurd x
refusal-left out (Refuse f) x = tt

range_all : (l : List ℕ) → range l 0 (length l - 0) ≡ l
unfolding range
range_all l = let e : length l - 0 ≡ length l = omega arith in rw e (take-length l)

range_none : (l : List ℕ) (i : ℕ) → range l i 0 ≡ []
unfolding range
range_none l i = refl

range-first : (l : List ℕ) (i m : ℕ) → i + suc m ≤ length l → range l i (suc m) ≡ get_or l i 0 ∷ range l (i + 1) m
range-first l i m g =
    let u : i + suc m - i ≡ suc m = omega arith in
    let v : i + suc m - (i + 1) ≡ m = omega arith in
    rw (u, v) at (range_turn l i (i + suc m) (omega arith) g)

-- r words without change take two bits each
reach_plain : (p q n k r : ℕ) → p + 26 * (n - k) ≤ 26 * n → q ≡ p + 2 * r → k + r ≤ n → q + 26 * (n - (k + r)) ≤ 26 * n
reach_plain p q n k r h e g = omega arith

-- two 0s leave a word as it is
plain_step_lem : (a : Assignments) (bits : List ℕ) (p w : ℕ) → get_or bits p 0 ≡ 0 → get_or bits (p + 1) 0 ≡ 0
    → word_step a bits p w ≡ Ok w
unfolding word_step half_step after_field indicator_at
plain_step_lem a bits p w x y = rw (eq-eqb (get_or bits p 0) 0 x, eq-eqb (get_or bits (p + 1) 0) 0 y)

-- words without change, by the code's own test
pub unchanged_next : (a : Assignments) (given : List ℕ) (c : Cursor) (k : ℕ) (out : List ℕ) (m : Option Progress) (out' : List ℕ)
    → c.ahead < 4611686018427387904 → Steps (unchanged_step given c k out) m out' → NextSteps a given c k out m out'
unfolding unchanged_step stored_step
unchanged_next a given c k out m out' l e =
    by-test (eqb c.ahead 0)
    (λ q. inr (eqb-true c.ahead 0 q, rw q at e))
    (λ q. inl (rw (plain_both a (get_or given k 0) c l) (rw q at e)))

module _ (a : Assignments) (words : List ℕ) (n : ℕ) (given : List ℕ) where
  abbrev bits : List ℕ
  bits = group_bits words n

  -- the place of the next bit
  abbrev place : Cursor → ℕ
  place = place_of (length words) n

  -- the words from number k on
  abbrev rest : ℕ → List ℕ
  rest k = range given k (length given - k)

  -- what they become onto the core's words, by the indicators from place q on
  abbrev become : List ℕ → ℕ → ℕ → Words
  become = become_from a bits given

  -- one word without change
  plain_turn : (out : List ℕ) (q k : ℕ) → get_or bits q 0 ≡ 0 → get_or bits (q + 1) 0 ≡ 0 → k < length given → k < length out
      → become out k q ≡ become (set out k (get_or given k 0)) (k + 1) (q + 2)
  unfolding changed_words
  plain_turn out q k b d g m =
      let w = get_or given k 0 in
      rw (range_turn given k (length given) g (omega arith), plain_step_lem a bits q w b d, after-zeros bits q w b d)
      (onto-first out k w (changed_words a bits (q + 2) (rest (k + 1))) m)

  -- r words without change
  pub plain_become : (r : ℕ) (out : List ℕ) (q k : ℕ) → length out ≡ length given → k + r ≤ length given
      → ((j : ℕ) → q ≤ j → j < q + 2 * r → get_or bits j 0 ≡ 0)
      → become (splice out k (range given k r)) (k + r) (q + 2 * r) ≡ become out k q
  plain_become zero out q k l h f =
      let x : q + 2 * 0 ≡ q = omega arith in
      let y : k + 0 ≡ k = omega arith in
      rw (x, y, range_none given k, splice-none out k)
  plain_become (suc r) out q k l h f =
      let w = get_or given k 0 in
      let x : q + 2 * suc r ≡ q + 2 + 2 * r = omega arith in
      let y : k + suc r ≡ k + 1 + r = omega arith in
      let b = f q (omega arith) (omega arith) in
      let d = f (q + 1) (omega arith) (omega arith) in
      let ih = plain_become r (set out k w) (q + 2) (k + 1) (length-set out k w ∙ l) (omega arith)
      (λ j u v. f j (omega arith) (omega arith)) in
      rw (x, y, range-first given k r (omega arith), splice-first out k w (range given (k + 1) r) (omega (arith, l)))
      (ih ∙ sym (plain_turn out q k b d (omega arith) (omega (arith, l))))

  abbrev Here : List ℕ → Cursor → ℕ → Type 0
  Here = Reached a words n given

  pub reached_start : n ≤ length words → (out : List ℕ) → length out ≡ length given → Here out (start_cursor (length words) n) 0
  reached_start inside out l =
      let s = start_sees words n inside in
      let e = sees_place words n (start_cursor (length words) n) 0 0 s in
      record {
        most = omega arith;
        reach = omega (arith, e);
        sees = rw e s;
        long = l;
        become = rw (e, range_all given) (onto-whole out (changed_words a bits 0 given) (rw l (changed-many a bits 0 given)));
        ends = rw (e, range_all given);
      }

  -- no word is left
  pub none_left : (out : List ℕ) (k q : ℕ) → length out ≡ length given → length given ≤ k
      → become out k q ≡ changed_words a bits 0 given
      → after_all bits q (rest k) ≡ after_all bits 0 given
      → Changes a bits given (Some q) out
  unfolding changed_words after_all onto
  none_left out k q m h b d =
      let l = range_end given k (length given) h in
      let r : become out k q ≡ Become out = rw (l, splice-none out k) in
      let t : after_all bits q (rest k) ≡ q = rw l in
      let e = sym r ∙ b in
      record { told = rw (← e) (ap Some (sym t ∙ d)); left = rw (← e); long = m }

  module _ (out : List ℕ) (c : Cursor) (k : ℕ) (w : Here out c k) where
    pub reached_end : length given ≤ k → Changes a bits given (Some (place c)) out
    reached_end h = none_left out k (place c) w.long h w.become w.ends

  -- a word more of the indicators, where bits are wanting
  module _ (all : every is_word words ≡ true) (few : 26 * length given + 28 < endless) (out : List ℕ) (c : Cursor) (k : ℕ)
      (w : Here out c k) where
    pub full_sees : Sees words n (refilled words n c) (place c) 29
    full_sees = refill_sees words n c (place c) w.sees (omega (arith, w.reach)) all

    pub reached-refilled : Here out (refilled words n c) k
    reached-refilled =
        let full = refilled words n c in
        let e = sees_place words n full (place c) 29 full_sees in
        record {
          most = w.most;
          reach = rw e w.reach;
          sees = rw e (sees_fewer words n full (place c) 29 0 (omega arith) full_sees);
          long = w.long;
          become = rw e w.become;
          ends = rw e w.ends;
        }

  module _ (inside : n ≤ length words) (out : List ℕ) (c : Cursor) (k : ℕ) (w : Here out c k) (h : k < length given)
      (s : Sees words n c (place c) 26) where
    top : k < length out
    top = omega (arith, w.long)

    turned : rest k ≡ get_or given k 0 ∷ rest (k + 1)
    turned = range_turn given k (length given) h (omega arith)

    step_is : (r : Option (ℕ × Cursor)) → both_of a (get_or given k 0) c ≡ r
        → onward (word_step a bits (place c) (get_or given k 0)) (λ v. Some (v, past_word c (get_or given k 0))) ≡ r
    step_is r e = sym (both_word a words n inside c (place c) (get_or given k 0) s) ∙ e

    -- one word
    pub reached_one : (v : ℕ) (d : Cursor) → both_of a (get_or given k 0) c ≡ Some (v, d) → Here (set out k v) d (k + 1)
    unfolding changed_words after_all
    reached_one v d e =
        let x = get_or given k 0 in
        let o = onward_next (word_step a bits (place c) x) (past_word c x) v d (step_is (Some (v, d)) e) in
        let y = word_sees words n inside c (place c) x s in
        let q : place d ≡ after_word bits (place c) x = rw o.1
        (sees_place words n (past_word c x) (after_word bits (place c) x) 0 y) in
        record {
          most = omega arith;
          reach = omega (arith, q, after_word_most bits (place c) x, w.reach);
          sees = rw (q, o.1) y;
          long = length-set out k v ∙ w.long;
          become = rw q (sym (onto-first out k v (changed_words a bits (after_word bits (place c) x) (rest (k + 1))) top)
              ∙ sym (rw (turned, o.0)) ∙ w.become);
          ends = rw q (sym (rw turned) ∙ w.ends);
        }

    pub stop_one : both_of a (get_or given k 0) c ≡ None → Refuses (become out k (place c))
    unfolding changed_words
    stop_one e =
        let x = get_or given k 0 in
        rw turned
        (onto_refuses out k
        (then_words (word_step a bits (place c) x) (changed_words a bits (after_word bits (place c) x) (rest (k + 1))))
        (onward_stop (word_step a bits (place c) x) (past_word c x) (changed_words a bits (after_word bits (place c) x) (rest (k + 1)))
        (step_is None e)))

    -- r words without change
    reached_plain : (r : ℕ) → k + r ≤ length given → c.ahead ≡ 0 → 2 * r ≤ c.left
        → Here (splice out k (range given k r)) (past_plain c r) (k + r)
    reached_plain r g z l =
        let f = plain_bits words n inside c (place c) s z r l in
        let y = plain_sees words n inside c (place c) s z r l in
        let q = sees_place words n (past_plain c r) (place c + 2 * r) 0 y in
        let m = length-range given k r g in
        record {
          most = g;
          reach = reach_plain (place c) (place (past_plain c r)) (length given) k r w.reach q g;
          sees = rw q y;
          long = length-splice out k (range given k r) (omega (arith, m, w.long)) ∙ w.long;
          become = rw q (plain_become r out (place c) k w.long g f ∙ w.become);
          ends = rw q (after-all_plain bits given r (place c) k (length given) g (omega arith) f ∙ w.ends);
        }

    -- what a step leaves is still to do, and there is less of it; or it is the refusal
    abbrev Goes : Step → Type 0
    Goes m = (q : Progress) → m.answer ≡ Some q → (k < q.word) × Here m.words q.cursor q.word

    abbrev Stops : Step → Type 0
    Stops m = m.answer ≡ None → (m.words ≡ out) × Refuses (become out k (place c))

    one_goes : (r : Option (ℕ × Cursor)) → both_of a (get_or given k 0) c ≡ r → Goes (stored_step k out r)
    unfolding stored_step
    one_goes (Some (v, d)) e = λ x q.
        let y : record { cursor = d; word = k + 1 } ≡ x = cc in
        rw (← y) (omega arith, reached_one v d e)
    one_goes None e = λ x q. let z : ◌≡◌ {A = ℕ} 0 1 = cc in absurd (omega arith)

    one_stops : (r : Option (ℕ × Cursor)) → both_of a (get_or given k 0) c ≡ r → Stops (stored_step k out r)
    unfolding stored_step
    one_stops (Some (v, d)) e = λ q. let z : ◌≡◌ {A = ℕ} 0 1 = cc in absurd (omega arith)
    one_stops None e = λ q. (refl, stop_one e)

    plain_goes : c.ahead ≡ 0 → Goes (plain_step given c k out (plain_words c (length given - k)))
    plain_goes u = λ x q.
        let r = plain_words c (length given - k) in
        let p = plain_words_lem c (length given - k) s.room (omega arith) in
        let y : record { cursor = past_plain c r; word = k + r } ≡ x = cc in
        rw (← y) (omega (arith, p.0), reached_plain r (omega (arith, p.1)) u p.2)

    plain_stops : (r : ℕ) → Stops (plain_step given c k out r)
    plain_stops r = λ q. let z : ◌≡◌ {A = ℕ} 0 1 = cc in absurd (omega arith)

    module _ (m : Option Progress) (out' : List ℕ) (e : NextSteps a given c k out m out') where
      pub step_goes : (q : Progress) → m ≡ Some q → (k < q.word) × Here out' q.cursor q.word
      step_goes q g =
          ⊎_elim (λ t. rw t.left (one_goes (both_of a (get_or given k 0) c) refl q (sym t.told ∙ g)))
          (λ t. rw t.1.left (plain_goes t.0 q (sym t.1.told ∙ g))) e

      pub step_stops : m ≡ None → (out' ≡ out) × Refuses (become out k (place c))
      step_stops g =
          ⊎_elim (λ t. rw t.left (one_stops (both_of a (get_or given k 0) c) refl (sym t.told ∙ g)))
          (λ t. rw t.1.left (plain_stops (plain_words c (length given - k)) (sym t.1.told ∙ g))) e
