-- Each test of a group, as the code makes it, gives the outcome that the definition says.
use Rattle.std.specs.Prelude.{Result, Err, Option, Some, None}
use mathlib.Core.Path.{◌≡◌, refl, sym, ap, ◌∙◌}
use mathlib.Core.Bool.{Bool, true, false}
use mathlib.Core.List.{List, [], ◌∷◌, ◌++◌}
use Prim.Native.Nat.{ℕ, ◌+◌, ◌-◌, ◌*◌, ◌≤◌, ◌<◌}
use native.Mathlib.Omega.{arith}
use lib.ListN.{length, get_or, take, drop, replicate, length-replicate}
use lib.Seq.{ext_get_or}
use borrow.Author.Tests.{leb-true}
use Rattle.word.specs.Limits.{words_in_block}
use Rattle.program.specs.Sections.{last_word}
use Rattle.lists.specs.declared.Given.{Given}
use Rattle.word.specs.declared.Fault.{Fault}
use Rattle.word.specs.Fault.{fault, further}
use Rattle.word.specs.Lists.{every, range, splice, cleared}
use Rattle.word.specs.Word.{is_word}
use Rattle.word.proofs.Cases.{by-test}
use Rattle.word.proofs.Lists.{length-range, get_d_range, range-lent, splice-whole, lent-whole}
use Rattle.word.proofs.Stretch.{every-range}
use Rattle.program.specs.declared.Group.{Group}
use Rattle.field.specs.Field.{Assignments}
use Rattle.indicator.specs.Indicator.{indicator_bits, bits_before, after_word, after_all, just_enough}
use Rattle.indicator.specs.HowCursor.{group_bits}
use Rattle.indicator.proofs.Places.{after_word_most}
use Rattle.group.specs.declared.GroupEnd.{GroupEnd}
use Rattle.group.specs.declared.Section.{Section}
use Rattle.group.specs.Group.{ended, Words, changed_words, program_words, indicator_bits_in, in_one_block, holds_program, words_lie}
use Rattle.group.specs.Group.{indicators_fit, group_fits, GroupMeets, address_of, refused_group, stored_group, group_outcome}
use Rattle.group.specs.Group.Words.{Become, Refuse}
use Rattle.group.specs.HowGroup.{Fills, zero_fill, changed_fill, counted_fill, fill_of, FillReady, Fitting}
use Rattle.group.specs.HowWords.{program_in, bits_or, Became, Changes, ChangeReady}
use Rattle.group.specs.HowFaults.{fault_or, first_fault, group_fault, FaultReady}
use Rattle.group.proofs.Words.{Many, changed-many}

after-all_most : (bits : List ℕ) (p : ℕ) (ws : List ℕ) → after_all bits p ws ≤ p + 26 * length ws
unfolding after_all
after-all_most bits p [] = omega arith
after-all_most bits p (w ∷ ws) = omega (arith, after-all_most bits (after_word bits p w) ws, after_word_most bits p w)

-- zeros in all words that a group goes to
pub cleared-whole : (out : List ℕ) → cleared out 0 (length out) ≡ replicate (length out) 0
unfolding cleared
cleared-whole out = splice-whole out (replicate (length out) 0) (length-replicate (length out) 0)

-- a stretch of a stretch
range_in : (l : List ℕ) (a m p q : ℕ) → p + q ≤ m → a + m ≤ length l → range (range l a m) p q ≡ range l (a + p) q
range_in l a m p q h k =
    let r = length-range l a m k in
    let s = length-range (range l a m) p q (omega arith) in
    let t = length-range l (a + p) q (omega arith) in
    ext_get_or 0 _ _ (s ∙ sym t)
    (λ i g.
    let d : a + (p + i) ≡ a + p + i = omega arith in
    let u : i < q = omega arith in
    get_d_range (range l a m) p q i u ∙ get_d_range l a m (p + i) (omega arith) ∙ ap (λ (j : ℕ). get_or l j 0) d
    ∙ sym (get_d_range l (a + p) q i u))

-- ---- a group that is whole in its block and holds its program words
module _ (x : Given) (l block : List ℕ) (i : ℕ) (g : Group) (out : List ℕ) (ready : FillReady x l block i g out)
    (fit : Fitting i g) where
  -- the group's words as the code lends them: its program words and its indicator words
  abbrev pub lent : List ℕ
  lent = take (i + 1 + g.words - (i + 1)) (drop (i + 1) block)

  lent_is : lent ≡ range block (i + 1) g.words
  lent_is = range-lent block (i + 1) g.words

  lent-long : length lent ≡ g.words
  lent-long = rw lent_is (length-range block (i + 1) g.words (omega (arith, ready.long, fit.whole)))

  lent-program : program_in lent g.program ≡ program_words block i g
  lent-program =
      let e : i + 1 + 0 ≡ i + 1 = omega arith in
      rw lent_is (rw e at (range_in block (i + 1) g.words 0 g.program (omega (arith, fit.holds))
      (omega (arith, ready.long, fit.whole))))

  lent-bits : group_bits lent g.program ≡ indicator_bits_in block i g
  unfolding bits_before
  lent-bits =
      let n = g.words - g.program in
      let e : i + 1 + (g.words - n) ≡ i + 1 + g.words - n = omega (arith, fit.holds) in
      rw (lent-long, lent_is)
      (ap indicator_bits (rw e at (range_in block (i + 1) g.words (g.words - n) n (omega (arith, fit.holds))
      (omega (arith, ready.long, fit.whole)))))

  many : length (program_words block i g) ≡ g.program
  many = length-range block (i + 1) g.program (omega (arith, ready.long, fit.whole, fit.holds))

  lent-all : every is_word lent ≡ true
  lent-all = rw lent_is (every-range is_word block (i + 1) g.words ready.words)

  pub lent_ready : ChangeReady x l lent g.program out
  lent_ready = record {
    lists = ready.lists;
    all = lent-all;
    few = omega (arith, lent-long, fit.whole);
    program = omega (arith, lent-long, fit.holds);
    room = ready.room;
  }

  pub fault_ready : FaultReady x l lent g.program
  fault_ready = record {
    lists = ready.lists;
    all = lent-all;
    few = omega (arith, lent-long, fit.whole);
    program = omega (arith, lent-long, fit.holds);
  }

  module _ (a : Assignments) where
    abbrev gives : Words
    gives = changed_words a (indicator_bits_in block i g) 0 (program_words block i g)

    abbrev ends : ℕ
    ends = after_all (indicator_bits_in block i g) 0 (program_words block i g)

    filled-bits : (r : Words) (b : ℕ) → Some b ≡ bits_or r ends → (out' : List ℕ) → Became out' r
        → (b ≡ ends) × Fills (changed_fill i g r) (ended (i + 1 + g.words) g.last) out'
    filled-bits (Become vs) b q out' e = (cc, record { told = refl; left = e })
    filled-bits (Refuse f) b q out' e = let z : ◌≡◌ {A = ℕ} 0 1 = cc in absurd (omega arith)

    filled_stop : (r : Words) → None ≡ bits_or r ends → changed_fill i g r ≡ zero_fill g.program (further 1 (fault_or r))
    filled_stop (Become vs) q = let z : ◌≡◌ {A = ℕ} 0 1 = cc in absurd (omega arith)
    filled_stop (Refuse x) q = refl

    module _ (r : Option ℕ) (out' : List ℕ)
        (run : Changes a (group_bits lent g.program) (program_in lent g.program) r out') where
      changed : Changes a (indicator_bits_in block i g) (program_words block i g) r out'
      changed = rw (lent-bits, lent-program) at run

      bits-told : (b : ℕ) → r ≡ Some b → (b ≡ ends) × Fills (changed_fill i g gives) (ended (i + 1 + g.words) g.last) out'
      bits-told b e = filled-bits gives b (sym e ∙ changed.told) out' changed.left

      pub bits_most : (b : ℕ) → r ≡ Some b → b ≤ 26 * g.program
      bits_most b e = let s = bits-told b e in omega
          (arith, s.0, after-all_most (indicator_bits_in block i g) 0 (program_words block i g), many)

      pub counted_done : (b : ℕ) → r ≡ Some b → (q : Bool) → q ≡ just_enough b (g.words - g.program) → q ≡ true
          → Fills (counted_fill a block i g) (ended (i + 1 + g.words) g.last) out'
      unfolding counted_fill indicators_fit
      counted_done b e q j t = let s = bits-told b e in rw (← s.0, sym j ∙ t) s.1

      -- as many words as were given
      pub long_out : length out' ≡ g.program
      long_out = changed.long ∙ many

      pub counted_wrong : (b : ℕ) → r ≡ Some b → (q : Bool) → q ≡ just_enough b (g.words - g.program) → q ≡ false
          → (x : Result GroupEnd Fault) (out'' : List ℕ) → Fills (zero_fill (length out') (fault 18)) x out''
          → Fills (counted_fill a block i g) x out''
      unfolding counted_fill indicators_fit
      counted_wrong b e q j t x out'' z = let s = bits-told b e in rw (← s.0, sym j ∙ t) (rw long_out at z)

      -- a field is refused: the count, and then the first refusal
      pub counted_stop : r ≡ None → (f : Fault) → f ≡ group_fault a lent g.program → (x : Result GroupEnd Fault) (out'' : List ℕ)
          → Fills (zero_fill (length out') f) x out'' → Fills (counted_fill a block i g) x out''
      unfolding counted_fill indicators_fit group_fault first_fault
      counted_stop e f q x out'' z =
          let y = rw (lent-bits, lent-program, lent-long) at q in
          by-test (just_enough ends (g.words - g.program))
          (λ t. rw (t, filled_stop gives (sym e ∙ changed.told), ← rw t at y) (rw long_out at z))
          (λ t. rw (t, ← rw t at y) (rw long_out at z))

-- ---- a group's words in the core, lent as a part of it
module _ (a : Assignments) (section : Section) (block : List ℕ) (i : ℕ) (g : Group) (core : List ℕ) where
  abbrev to : ℕ
  to = (address_of a.area section g).0

  -- the tests that are left where the words lie where they must
  zero-stored : (f : Fault) → words_lie section g ≡ true
      → GroupMeets (refused_group a.area section g core f) (Err f) (splice core to (replicate g.program 0))
  unfolding refused_group cleared
  zero-stored f q = rw q (record { told = refl; left = refl })

  changed-stored : words_lie section g ≡ true → (r : Words)
      → GroupMeets (stored_group a.area section i g core r) (changed_fill i g r).answer
      (splice core to (changed_fill i g r).words)
  unfolding stored_group
  changed-stored q (Become vs) = record { told = refl; left = refl }
  changed-stored q (Refuse f) = zero-stored (further 1 f) q

  -- what was filled in is the outcome
  fill_is : words_lie section g ≡ true
      → GroupMeets (group_outcome a section block i g core) (fill_of a block i g).answer (splice core to (fill_of a block i g).words)
  unfolding group_outcome group_fits fill_of counted_fill
  fill_is q =
      rw q
      (by-test (in_one_block i g)
      (λ x. by-test (holds_program g)
      (λ y. by-test (indicators_fit block i g)
      (λ z. rw (x, y, z) (changed-stored q (changed_words a (indicator_bits_in block i g) 0 (program_words block i g))))
      (λ z. rw (x, y, z) (zero-stored (fault 18) q)))
      (λ y. rw (x, y) (zero-stored (fault 18) q)))
      (λ x. rw x (zero-stored (fault 18) q)))

  pub outcome_outside : words_lie section g ≡ false → GroupMeets (group_outcome a section block i g core) (Err (fault 18)) core
  unfolding group_outcome group_fits refused_group
  outcome_outside q =
      rw q
      (by-test (in_one_block i g)
      (λ x. by-test (holds_program g) (λ y. rw (x, y) (record { told = refl; left = refl }))
      (λ y. rw (x, y) (record { told = refl; left = refl })))
      (λ x. rw x (record { told = refl; left = refl })))

  -- as many words as the group has program words
  fill_many : length block ≡ words_in_block → length (fill_of a block i g).words ≡ g.program
  unfolding fill_of counted_fill
  fill_many long =
      by-test (in_one_block i g)
      (λ x. by-test (holds_program g)
      (λ y. by-test (indicators_fit block i g)
      (λ z. rw (x, y, z) (words_many x y (changed_words a (indicator_bits_in block i g) 0 (program_words block i g))
      (changed-many a (indicator_bits_in block i g) 0 (program_words block i g))))
      (λ z. rw (x, y, z) (length-replicate g.program 0)))
      (λ y. rw (x, y) (length-replicate g.program 0)))
      (λ x. rw x (length-replicate g.program 0))
    where
      words_many : in_one_block i g ≡ true → holds_program g ≡ true → (r : Words) → Many (length (program_words block i g)) r
          → length (changed_fill i g r).words ≡ g.program
      words_many x y (Become vs) m =
          m ∙ length-range block (i + 1) g.program
          (omega (arith, leb-true (i + g.words) last_word x, leb-true g.program g.words y))
      words_many x y (Refuse f) m = length-replicate g.program 0

  -- the words that were lent come back filled
  pub outcome_filled : length block ≡ words_in_block → to + g.program ≤ length core → words_lie section g ≡ true → (t : ℕ) → t ≡ to
      → (r : Result GroupEnd Fault) (out : List ℕ) → Fills (fill_of a block i g) r out
      → GroupMeets (group_outcome a section block i g core) r (take t core ++ (out ++ drop (t + g.program - t) (drop t core)))
  outcome_filled long h q t e r out m =
      let o = fill_is q in
      rw e (record {
        told = m.told ∙ o.told;
        left = lent-whole core to g.program out h (ap length m.left ∙ fill_many long)
            ∙ ap (splice core to) m.left ∙ o.left;
      })
