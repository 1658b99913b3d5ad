-- The tables of a label taken one after another: each is found to stand or not as the definition has it, and so the loop over the
-- table words of a block finds the first that does not.
use Prim.Native.Nat.{ℕ, suc, ◌+◌, ◌≤◌, ◌<◌}
use mathlib.Core.Path.{◌≡◌, refl, sym, ap, ◌∙◌}
use mathlib.Core.Bool.{Bool, true, false, ◌&&◌, and-false}
use mathlib.Core.List.{List}
use native.Mathlib.Omega.{arith}
use native.Mathlib.Numerals.{add-one}
use lib.ListN.{length, get_or, take}
use lib.Seq.{take_all}
use lib.Dec.{ltb, leb}
use borrow.Author.Tests.{lt-ltb, le-ltb, leb-true, le-leb, lt-leb, eq-eqb, ne_eqb}
use Rattle.word.specs.Word.{bits}
use Rattle.word.specs.Fault.{fault, further}
use Rattle.word.specs.Lists.{every}
use Rattle.word.specs.declared.Fault.{Fault}
use Rattle.word.proofs.Cases.{by-lt, when, and_left}
use Rattle.word.proofs.First.{AllBelow, below_none, below_more, first-all, first-at}
use Rattle.word.proofs.Lists.{length-tab, get_d_tab}
use Rattle.label.specs.Tables.{TableWord, table_word, table_words_in, table_words, carries, rises, has_entries, entries_of}
use Rattle.label.specs.Tables.{counts_of, within_limits, table_at, table_stands, first_table, tables_stand, table_fault}
use Rattle.label.specs.HowTables.{may_follow, counted_with, table_read, tables_read}
use Rattle.label.specs.declared.Counts.{Counts}
use Rattle.std.specs.Prelude.{Result, Ok, Err}
use Rattle.label.proofs.Fronts.{every_front}
use Rattle.label.proofs.Tables.{few_stand, counts-front}

-- ---- what is known once i tables have been read: a type is above theirs where it is none below the least
abbrev Rising : List TableWord → ℕ → ℕ → Type 0
Rising ts i least = (y : TableWord) → every (λ x. rises x y) (take i ts) ≡ leb least y.type

rising_next : (least s t : ℕ) → least ≤ s → (leb least t && ltb s t) ≡ leb (s + 1) t
rising_next least s t h = by-lt s t
    (λ l. rw (le-leb least t (omega arith), lt-ltb s t l, le-leb (s + 1) t (omega arith)))
    (λ g. rw (le-ltb s t g, lt-leb (s + 1) t (omega arith)) (and-false (leb least t)))

rising_more : (ts : List TableWord) (i least : ℕ) → i < length ts → least ≤ (table_at ts i).type → Rising ts i least
    → Rising ts (suc i) ((table_at ts i).type + 1)
rising_more ts i least h k r y =
    every_front (λ x. rises x y) (table_word 0) ts i h
    ∙ ap (λ (b : Bool). b && rises (table_at ts i) y) (r y)
    ∙ rising_next least (table_at ts i).type y.type k

pub record ReadTo (ts : List TableWord) (i least : ℕ) (c : Counts) : Type 0 where
  pub stand : AllBelow (table_stands ts) i
  pub rising : Rising ts i least
  pub counted : c ≡ counts_of (take i ts)
  pub within : within_limits c ≡ true

same_tests : (a l h w : Bool) → (a && (l && (h && w))) ≡ ((l && (h && a)) && w)
same_tests true true true w = refl
same_tests true true false w = refl
same_tests true false h w = refl
same_tests false true true w = refl
same_tests false true false w = refl
same_tests false false h w = refl

-- what a table word's reader answers
module _ (least : ℕ) (c : Counts) (x : TableWord) where
  abbrev Added : Counts → Type 0
  Added d = (may_follow least x ≡ true) × (within_limits (counted_with c x) ≡ true) × (d ≡ counted_with c x)

  of_good : (d : Counts) → table_read least c x ≡ Ok d → Added d
  unfolding table_read
  of_good d =
      when (λ (y : Result Counts Fault). y ≡ Ok d → Added d) (may_follow least x)
      (λ m. when (λ (y : Result Counts Fault). y ≡ Ok d → Added d) (within_limits (counted_with c x)) (λ w q. (m, w, cc))
      (λ w q. let z : ◌≡◌ {A = ℕ} 0 1 = cc in absurd (omega arith)))
      (λ m q. let z : ◌≡◌ {A = ℕ} 0 1 = cc in absurd (omega arith))

  abbrev Kept : Fault → Type 0
  Kept f = ((may_follow least x && within_limits (counted_with c x)) ≡ false) × (f ≡ fault 15)

  pub of_bad : (f : Fault) → table_read least c x ≡ Err f → Kept f
  unfolding table_read
  of_bad f =
      when (λ (y : Result Counts Fault). y ≡ Err f → Kept f) (may_follow least x)
      (λ m. when (λ (y : Result Counts Fault). y ≡ Err f → Kept f) (within_limits (counted_with c x))
      (λ w q. let z : ◌≡◌ {A = ℕ} 0 1 = cc in absurd (omega arith))
      (λ w q. (rw (m, w), cc)))
      (λ m q. (rw m, cc))

module _ (ts : List TableWord) (i least : ℕ) (c : Counts) (x : TableWord) (h : i < length ts) (r : ReadTo ts i least c)
    (e : x ≡ table_at ts i) where
  stands_read : table_stands ts i ≡ (may_follow least x && within_limits (counted_with c x))
  unfolding table_stands may_follow
  stands_read =
      rw (counts-front ts i h, ← r.counted, r.rising (table_at ts i), e)
      (same_tests (carries (table_at ts i)) (leb least (table_at ts i).type) (has_entries (table_at ts i))
      (within_limits (counted_with c (table_at ts i))))

  read_more : (d : Counts) → table_read least c x ≡ Ok d → ReadTo ts (i + 1) (x.type + 1) d
  unfolding may_follow
  read_more d q =
      let g = of_good least c x d q in
      let l = leb-true least x.type (and_left (leb least x.type) _ g.0) in
      rw (add-one i) (record {
        stand = below_more (table_stands ts) i r.stand (stands_read ∙ rw (g.0, g.1));
        rising = rw e (rising_more ts i least h (rw e at l) r.rising);
        counted = g.2 ∙ rw (r.counted, e) (sym (counts-front ts i h));
        within = rw g.2 g.1;
      })

  read_bad : (f : Fault) → table_read least c x ≡ Err f → Err (further i f) ≡ tables_read ts
  unfolding tables_read tables_stand first_table
  read_bad f q =
      let b = of_bad least c x f q in
      let k = first-at (table_stands ts) (length ts) i h r.stand (stands_read ∙ b.0) in
      rw (k, ne_eqb i (length ts) (λ z. omega arith), b.1)

pub read_none : (ts : List TableWord) → ReadTo ts 0 0 (record { switches = 0; channels = 0; units = 0; tables = 0 })
unfolding counts_of entries_of within_limits every
read_none ts = record {
  stand = below_none (table_stands ts);
  rising = λ y. sym (le-leb 0 y.type (omega arith));
  counted = refl;
  within = refl;
}

module _ (ts : List TableWord) (i least : ℕ) (c : Counts) (r : ReadTo ts i least c) where
  read_all : i ≡ length ts → Ok c ≡ tables_read ts
  unfolding tables_read tables_stand first_table
  read_all e =
      let k = first-all (table_stands ts) (length ts) (rw e at r.stand) in
      rw (k, eq-eqb (length ts) (length ts) refl)
      (ap Ok (r.counted ∙ ap counts_of (take_all i ts (omega arith))))

-- ---- the table words of a block
module _ (block : List ℕ) where
  tables-length : length (table_words block) ≡ bits 28 18 (get_or block 3 0)
  unfolding table_words table_words_in
  tables-length = length-tab (λ i. table_word (get_or block (4 + i) 0)) (bits 28 18 (get_or block 3 0))

  table-at : (i : ℕ) → i < bits 28 18 (get_or block 3 0) → table_word (get_or block (4 + i) 0) ≡ table_at (table_words block) i
  unfolding table_words table_words_in
  table-at i h = sym (get_d_tab (λ j. table_word (get_or block (4 + j) 0)) (bits 28 18 (get_or block 3 0)) i (table_word 0) h)

  module _ (i least : ℕ) (c : Counts) (r : ReadTo (table_words block) i least c) where
    -- a table word that is read stands before the block's end, whatever word 3 counts
    pub word_short : i ≤ bits 28 18 (get_or block 3 0) → i ≤ 4
    word_short h = few_stand (table_words block) i (omega (arith, tables-length)) r.stand

    pub word_more : (d : Counts) → i < bits 28 18 (get_or block 3 0) → table_read least c (table_word (get_or block (4 + i) 0)) ≡ Ok d
        → ReadTo (table_words block) (i + 1) (bits 35 32 (get_or block (4 + i) 0) + 1) d
    word_more d h q =
        let l : i < length (table_words block) = omega (arith, tables-length) in
        read_more (table_words block) i least c (table_word (get_or block (4 + i) 0)) l r (table-at i h) d q

    pub word_bad : (f : Fault) → i < bits 28 18 (get_or block 3 0) → table_read least c (table_word (get_or block (4 + i) 0)) ≡ Err f
        → Err (further i f) ≡ tables_read (table_words block)
    word_bad f h q =
        let l : i < length (table_words block) = omega (arith, tables-length) in
        read_bad (table_words block) i least c (table_word (get_or block (4 + i) 0)) l r (table-at i h) f q

    pub word_all : i ≡ bits 28 18 (get_or block 3 0) → Ok c ≡ tables_read (table_words block)
    word_all h = read_all (table_words block) i least c r (omega (arith, tables-length))

-- ---- what the tables are answered with
module _ (ts : List TableWord) where
  pub tables_good : (c : Counts) → tables_read ts ≡ Ok c → (tables_stand ts ≡ true) × (c ≡ counts_of ts)
  unfolding tables_read
  tables_good c =
      when (λ (y : Result Counts Fault). y ≡ Ok c → (tables_stand ts ≡ true) × (c ≡ counts_of ts)) (tables_stand ts) (λ s q. (s, cc))
      (λ s q. let z : ◌≡◌ {A = ℕ} 0 1 = cc in absurd (omega arith))

  pub tables_bad : (f : Fault) → tables_read ts ≡ Err f → (tables_stand ts ≡ false) × (f ≡ table_fault ts)
  unfolding tables_read
  tables_bad f =
      when (λ (y : Result Counts Fault). y ≡ Err f → (tables_stand ts ≡ false) × (f ≡ table_fault ts)) (tables_stand ts)
      (λ s q. let z : ◌≡◌ {A = ℕ} 0 1 = cc in absurd (omega arith))
      (λ s q. (s, cc))
