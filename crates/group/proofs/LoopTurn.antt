-- A turn of the loop over a group's program words, an indicator word more where bits are wanting and then a step; and a group
-- without any change.
use Rattle.std.specs.Prelude.{Option, Some, None}
use mathlib.Core.Path.{◌≡◌, refl, sym, ap, ◌∙◌}
use mathlib.Core.Bool.{Bool, true, ◌&&◌}
use mathlib.Core.Logic.{inl}
use mathlib.Core.List.{List, [], ◌∷◌}
use Prim.Native.Nat.{ℕ, ◌+◌, ◌-◌, ◌*◌, ◌/◌, ◌%◌, ◌<◌, ◌≤◌, ◌^◌}
use native.Mathlib.Nat.{zero-div}
use native.Mathlib.Omega.{arith}
use lib.ListN.{length, get_or, set, take, drop}
use lib.Seq.{take-length}
use borrow.Author.Tests.{eq-eqb, eqb-true, ltb-true}
use Rattle.std.specs.List.{list_all}
use Rattle.lists.specs.declared.Given.{Given}
use Rattle.word.specs.Limits.{words_in_block}
use Rattle.word.specs.Lists.{every, range, splice}
use Rattle.word.specs.Word.{is_word}
use Rattle.word.proofs.Cases.{by-lt}
use Rattle.word.proofs.Lists.{length-range, get_d_range, splice-whole}
use Rattle.word.proofs.Says.{every-at}
use Rattle.field.specs.Field.{Assignments}
use Rattle.indicator.specs.declared.Cursor.{Cursor}
use Rattle.indicator.specs.HowCursor.{group_bits, endless, Sees, start_cursor, place_of, refilled, RefillReady, PlaceReady}
use Rattle.indicator.proofs.Bits.{bits_at, bits_past}
use Rattle.indicator.proofs.Reading.{start_sees, sees_place}
use Rattle.indicator.proofs.Turns.{after-all_plain}
use Rattle.group.specs.declared.changes.Progress.{Progress}
use Rattle.group.specs.Group.{changed_words}
use Rattle.group.specs.HowHalves.{both_of, moved_word, HalfReady}
use Rattle.group.specs.HowLoop.{Refuses, Reached, TurnReady, Turns}
use Rattle.group.specs.HowWords.{program_in, stands, Steps, stored_step, NextSteps, PassReady, Changes, ChangeReady, is_zero}
use Rattle.group.proofs.Both.{moved_both}
use Rattle.group.proofs.Loop.{reached_start, none_left, refusal-told, refusal-left, full_sees, reached-refilled, reached_one}
use Rattle.group.proofs.Loop.{stop_one, step_goes, step_stops, plain_become}

-- the program words as the code lends them
pub lent-given : (words : List ℕ) (n : ℕ) → take n words ≡ program_in words n
unfolding range
lent-given words n = refl

-- ---- a group's words: its program words, and how many bits they have at most
program-many : (words : List ℕ) (n : ℕ) → n ≤ length words → length (program_in words n) ≡ n
program-many words n h = length-range words 0 n (omega arith)

program_word_lem : (words : List ℕ) (n k : ℕ) → k < n → get_or (program_in words n) k 0 ≡ get_or words k 0
program_word_lem words n k h = let e : 0 + k ≡ k = omega arith in get_d_range words 0 n k h ∙ ap (λ (j : ℕ). get_or words j 0) e

bits_few : (m n w : ℕ) → m ≡ n → n ≤ w → w < words_in_block → 26 * m + 28 < endless
bits_few m n w e h k = omega arith

module _ (x : Given) (l words : List ℕ) (n : ℕ) (out₀ : List ℕ) (ready : ChangeReady x l words n out₀) where
  abbrev given : List ℕ
  given = program_in words n

  pub many : length given ≡ n
  many = program-many words n ready.program

  few_bits : 26 * length given + 28 < endless
  few_bits = bits_few (length given) n (length words) many ready.program ready.few

  pub first-here : (a : Assignments) → Reached a words n given out₀ (start_cursor (length words) n) 0
  first-here a = reached_start a words n given ready.program out₀ (ready.room ∙ sym many)

  module _ (a : Assignments) (out : List ℕ) (c : Cursor) (k : ℕ) (w : Reached a words n given out c k) where
    pub turn_refills : RefillReady words n c
    turn_refills = record {
      long = omega (arith, ready.few);
      all = ready.all;
      sees = w.sees;
      near = omega (arith, w.reach, few_bits);
    }

    pub turn_place : PlaceReady c (length words) n
    turn_place = record { most = w.sees.most; few = omega (arith, ready.few); left = omega (arith, w.sees.left) }

    pub turn_ready : k < n → (full : Cursor) → full ≡ refilled words n c
        → TurnReady x l a words n (record { cursor = full; word = k }) out
    turn_ready h full e = record {
      lists = ready.lists;
      all = ready.all;
      few = ready.few;
      program = ready.program;
      more = h;
      many = rw e (omega (arith, (full_sees a words n given ready.all few_bits out c k w).room));
      reached = rw e (reached-refilled a words n given ready.all few_bits out c k w);
    }

-- ---- a turn: 29 bits are at hand
module _ (x : Given) (l : List ℕ) (a : Assignments) (words : List ℕ) (n : ℕ) (p : Progress) (out : List ℕ)
    (ready : TurnReady x l a words n p out) where
  abbrev program : List ℕ
  program = program_in words n

  pub turn_many : length program ≡ n
  turn_many = program-many words n ready.program

  -- as long as 29 bits are at hand, a word's are
  module _ (out' : List ℕ) (c : Cursor) (k : ℕ) (w : Reached a words n program out' c k) (h : k < n) (b : 28 < c.left) where
    sees : Sees words n c (place_of (length words) n c) 26
    sees = record {
      few = w.sees.few;
      most = w.sees.most;
      seen = w.sees.seen;
      near = w.sees.near;
      left = w.sees.left;
      room = omega arith;
    }

    here : k < length program
    here = omega (arith, turn_many)

    pub turn_word : get_or words k 0 < 2 ^ 36
    turn_word = ltb-true (get_or words k 0) (2 ^ 36) (every-at is_word words k (omega (arith, ready.program)) ready.all)

    -- a step of `NextSteps`
    module _ (m : Option Progress) (out'' : List ℕ) (e : NextSteps a program c k out' m out'') where
      pub next_goes : (q : Progress) → m ≡ Some q → (k < q.word) × Reached a words n program out'' q.cursor q.word
      next_goes = step_goes a words n program ready.program out' c k w here sees m out'' e

      next_stops : m ≡ None → (out'' ≡ out') × Refuses (changed_words a (group_bits words n) 0 program)
      next_stops q =
          let y = step_stops a words n program ready.program out' c k w here sees m out'' e q in
          (y.0, rw w.become at y.1)

    -- one word of a run
    module _ (r : Option (ℕ × Cursor)) (i : r ≡ moved_word a.area (get_or words k 0) c) (q : c.ahead / 576460752303423488 ≡ 8) where
      both : both_of a (get_or program k 0) c ≡ r
      both = rw (program_word_lem words n k h) (moved_both a (get_or words k 0) c (eq-eqb (c.ahead / 576460752303423488) 8 q)) ∙ sym i

      pub run_goes : (v : ℕ) (d : Cursor) → r ≡ Some (v, d) → Reached a words n program (set out' k v) d (k + 1)
      run_goes v d e = reached_one a words n program ready.program out' c k w here sees v d (both ∙ e)

      pub run_stops : r ≡ None → Refuses (changed_words a (group_bits words n) 0 program)
      run_stops e = rw w.become at (stop_one a words n program ready.program out' c k w here sees (both ∙ e))

  -- where the turn begins
  module _ (m : Option Progress) (out'' : List ℕ) (e : NextSteps a program p.cursor p.word out m out'') where
    long_by : (r : Option Progress) → m ≡ r → length out'' ≡ n
    long_by (Some d) q =
        (next_goes out p.cursor p.word ready.reached ready.more ready.many m out'' e d q).1.long ∙ turn_many
    long_by None q =
        ap length (next_stops out p.cursor p.word ready.reached ready.more ready.many m out'' e q).0
        ∙ ready.reached.long ∙ turn_many

    pub next_turns : Turns a words n p m out''
    next_turns = record {
      goes = next_goes out p.cursor p.word ready.reached ready.more ready.many m out'' e;
      stops = λ q. (next_stops out p.cursor p.word ready.reached ready.more ready.many m out'' e q).1;
      long = long_by m refl;
    }

  -- ---- what its callees need, and one word
  pub out_many : length out ≡ n
  out_many = ready.reached.long ∙ turn_many

  pub pass_ready : PassReady program p.cursor p.word out
  pass_ready = record {
    left = omega (arith, turn_many, ready.more);
    most = omega (arith, turn_many, ready.program, ready.few);
    room = ready.reached.long;
    near = omega (arith, ready.many);
  }

  pub half_ready : HalfReady x l (get_or words p.word 0) p.cursor 26
  half_ready = record {
    lists = ready.lists;
    word = turn_word out p.cursor p.word ready.reached ready.more ready.many;
    near = omega (arith, ready.many);
  }

  pub store_ready : (p.word < length out) × (length out < 2 ^ 64)
  store_ready = (omega (arith, out_many, ready.more), omega (arith, out_many, ready.program, ready.few))

  pub one_turns : (r : Option (ℕ × Cursor)) (m : Option Progress) (out'' : List ℕ) → r ≡ both_of a (get_or words p.word 0) p.cursor
      → Steps (stored_step p.word out r) m out'' → Turns a words n p m out''
  one_turns r m out'' e s = next_turns m out'' (inl (rw (program_word_lem words n p.word ready.more, ← e) s))

-- a run of words ends: less is left to do, or there is a refusal
pub run_at : (a : Assignments) (words : List ℕ) (n : ℕ) (p : Progress) (d : Cursor) (j : ℕ) (out : List ℕ) → n ≤ length words
    → p.word < j → Reached a words n (program_in words n) out d j → Turns a words n p (stands d j) out
run_at a words n p d j out h l w = record {
  goes = λ e q. let y : record { cursor = d; word = j } ≡ e = cc in rw (← y) (l, w);
  stops = λ q. let z : ◌≡◌ {A = ℕ} 0 1 = cc in absurd (omega arith);
  long = w.long ∙ program-many words n h;
}

pub run_stop : (a : Assignments) (words : List ℕ) (n : ℕ) (p : Progress) (out : List ℕ) → length out ≡ n
    → Refuses (changed_words a (group_bits words n) 0 (program_in words n)) → Turns a words n p None out
run_stop a words n p out l x = record {
  goes = λ e q. let z : ◌≡◌ {A = ℕ} 0 1 = cc in absurd (omega arith);
  stops = λ q. x;
  long = l;
}

pub fewer_left : (n k : ℕ) → k < n → n - (k + 1) < n - k
fewer_left n k h = omega arith

-- a turn that stops is the group's refusal
pub turn_stops : (a : Assignments) (words : List ℕ) (n : ℕ) (p : Progress) (m : Option Progress) (out : List ℕ) → n ≤ length words
    → Turns a words n p m out → m ≡ None → Changes a (group_bits words n) (program_in words n) None out
turn_stops a words n p m out h t q = record {
  told = refusal-told (changed_words a (group_bits words n) 0 (program_in words n)) _ (t.stops q);
  left = refusal-left out (changed_words a (group_bits words n) 0 (program_in words n)) (t.stops q);
  long = t.long ∙ sym (program-many words n h);
}

-- ---- where no indicator word has a 1, no bit is one

-- the library's word for a test of every element
pub every_list_all : (f : ℕ → Bool) (l : List ℕ) → list_all f l ≡ every f l
unfolding every
every_list_all f [] = refl
every_list_all f (x ∷ xs) = ap (λ (b : Bool). f x && b) (every_list_all f xs)

lent-zero : (ws : List ℕ) (m : ℕ) → every is_zero (take (length ws - m) (drop m ws)) ≡ true
    → every is_zero (range ws m (length ws - m)) ≡ true
unfolding range
lent-zero ws m q = q

no_bit : (words : List ℕ) (n : ℕ) → n ≤ length words → every is_zero (take (length words - n) (drop n words)) ≡ true → (k : ℕ)
    → get_or (group_bits words n) k 0 ≡ 0
no_bit words n inside z k = by-lt (k / 36) (length words - n)
    (λ l.
    let end = length words in
    let j = end - n - 1 - k / 36 in
    let e : n + j ≡ end - 1 - k / 36 = omega arith in
    let m = length-range words n (end - n) (omega arith) in
    let w = sym (ap (λ (x : ℕ). get_or words x 0) e) ∙ sym (get_d_range words n (end - n) j (omega arith))
    ∙ eqb-true (get_or (range words n (end - n)) j 0) 0
    (every-at is_zero (range words n (end - n)) j (omega (arith, m)) (lent-zero words n z)) in
    bits_at words end (end - n) k (record { first = omega arith; last = omega arith }) l ∙ rw (w, zero-div (2 ^ (35 - k % 36))))
    (λ l. bits_past words (length words) (length words - n) k l)

-- all words stored anew
splice_all : (given : List ℕ) (n : ℕ) → length given ≡ n → (out : List ℕ) → length out ≡ n → splice out 0 (range given 0 n) ≡ given
unfolding range
splice_all given n m out k = rw (← m, take-length given) (splice-whole out given (m ∙ sym k))

pub no_change : (x : Given) (l words : List ℕ) (n : ℕ) (out₀ : List ℕ) (ready : ChangeReady x l words n out₀) (a : Assignments)
    (out : List ℕ) → out ≡ program_in words n
    → every is_zero (take (length words - n) (drop n words)) ≡ true
    → Changes a (group_bits words n) (program_in words n) (Some (2 * n)) out
no_change x l words n out₀ ready a out e z =
    let bits = group_bits words n in
    let given = program_in words n in
    let m = length-range words 0 n (omega (arith, ready.program)) in
    let f : (j : ℕ) → 0 ≤ j → j < 0 + 2 * n → get_or bits j 0 ≡ 0 = λ j u v. no_bit words n ready.program z j in
    let d : 0 + 2 * n ≡ 2 * n = omega arith in
    let s = reached_start a words n given ready.program out₀ (ready.room ∙ sym m) in
    let t = sees_place words n (start_cursor (length words) n) 0 0 (start_sees words n ready.program) in
    let o : splice out₀ 0 (range given 0 n) ≡ out = splice_all given n m out₀ ready.room ∙ sym e in
    rw d at (none_left a words n given out (0 + n) (0 + 2 * n) (rw e (refl)) (omega (arith, m))
    (rw o at (plain_become a words n given n out₀ 0 0 (ready.room ∙ sym m) (omega (arith, m)) f) ∙ rw t at s.become)
    (after-all_plain bits given n 0 0 (length given) (omega (arith, m)) (omega arith) f ∙ rw t at s.ends))
