-- What is kept by kind: the stretches are apart, what is written into one is read from it alone, and so the tags of a file are
-- kept.
use Prim.Native.Nat.{ℕ, ◌+◌, ◌-◌, ◌≤◌, ◌<◌}
use mathlib.Core.Path.{◌≡◌, refl, sym, ◌∙◌}
use mathlib.Core.List.{List}
use native.Mathlib.Omega.{arith}
use lib.ListN.{length, get_or, take, drop}
use lib.Dec.{ltb}
use Rattle.word.specs.Lists.{splice}
use Rattle.word.proofs.Cases.{by-lt}
use Rattle.word.proofs.Lists.{length-tab, get_d_tab, length-range, get_d_range, range-lent, length-splice, range-splice-same}
use Rattle.word.proofs.Lists.{range-splice-before, range-splice-after}
use Rattle.label.specs.Label.{Carried}
use Rattle.label.specs.declared.Label.{Label}
use Rattle.book.specs.Tags.{entries_of, tag_of, tags_of, file_tags, of_kind}
use Rattle.book.specs.Assign.{rank, place_of, in_file}
use Rattle.book.specs.HowKept.{kind_most, kept_words, start_of, kept_of, kept_tags, with_tags, with_all_tags}
use Rattle.book.specs.declared.Assignment.{Assignment}
use Rattle.book.specs.declared.Kind.{Kind}
use Rattle.book.specs.declared.Kind.TheVariants.{Address, Length, Peripheral}

-- a kind has no more entries than its stretch has numbers, and its stretch is one of three
pub few_entries : (l : Label) (k : Kind) → Carried l → entries_of l k ≤ kind_most
few_entries l Peripheral c = c.io
few_entries l Address c = c.core
few_entries l Length c = c.core

pub start_most : (k : Kind) → start_of k + kind_most ≤ kept_words
start_most Peripheral = omega arith
start_most Address = omega arith
start_most Length = omega arith

-- so its entries, as a function has found where they begin and how many they are, lie among what is kept
pub lent_in : (l : Label) (k : Kind) (a n : ℕ) → Carried l → a ≡ start_of k → n ≡ entries_of l k → a + n ≤ kept_words
lent_in l k a n c p q = let m = start_most k in let f = few_entries l k c in omega arith

-- ---- the tags of a kind
module _ (blocks : List ℕ) (l : Label) (k : Kind) where
  pub tags_long : length (tags_of blocks l k) ≡ entries_of l k
  unfolding tags_of
  tags_long = length-tab (tag_of blocks l k) (entries_of l k)

  pub tags_at : (j : ℕ) → j < entries_of l k → get_or (tags_of blocks l k) j 0 ≡ tag_of blocks l k j
  unfolding tags_of
  tags_at j h = get_d_tab (tag_of blocks l k) (entries_of l k) j 0 h

-- ---- one stretch, of numbers that are as many as are kept
module _ (kept : List ℕ) (l : Label) (long : length kept ≡ kept_words) (c : Carried l) where
  pub stretch_in : (k : Kind) → start_of k + entries_of l k ≤ length kept
  stretch_in k = let m = start_most k in let n = few_entries l k c in omega arith

  pub kept-long : (k : Kind) → length (kept_of kept l k) ≡ entries_of l k
  unfolding kept_of
  kept-long k = length-range kept (start_of k) (entries_of l k) (stretch_in k)

  pub kept_at : (k : Kind) (j : ℕ) → j < entries_of l k → get_or (kept_of kept l k) j 0 ≡ get_or kept (start_of k + j) 0
  unfolding kept_of
  kept_at k j h = get_d_range kept (start_of k) (entries_of l k) j h

  module _ (k : Kind) (vs : List ℕ) (n : length vs ≡ entries_of l k) where
    pub written-long : length (splice kept (start_of k) vs) ≡ kept_words
    written-long = length-splice kept (start_of k) vs (omega (arith, stretch_in k)) ∙ long

    pub written_same : kept_of (splice kept (start_of k) vs) l k ≡ vs
    unfolding kept_of
    written_same = rw (sym n) (range-splice-same kept (start_of k) vs (omega (arith, stretch_in k)))

    pub written_other : (m : Kind) → (rank m ≡ rank k → ⊥) → kept_of (splice kept (start_of k) vs) l m ≡ kept_of kept l m
    unfolding kept_of
    written_other m h =
        let a = few_entries l k c in
        let b = few_entries l m c in
        let s = stretch_in k in
        by-lt (rank m) (rank k)
        (λ p. range-splice-before kept (start_of k) vs (start_of m) (entries_of l m) (omega arith) (omega arith))
        (λ p. let q : (rank m ≡ rank k → ⊥) = h in
        by-lt (rank k) (rank m)
        (λ r. range-splice-after kept (start_of k) vs (start_of m) (entries_of l m) (omega arith) (omega arith))
        (λ r. absurd (h (omega arith))))

-- what a part lent as `&kept[a..a + n]` holds
pub kept-lent : (kept : List ℕ) (l : Label) (k : Kind) (a n : ℕ) → a ≡ start_of k → n ≡ entries_of l k
    → take (a + n - a) (drop a kept) ≡ kept_of kept l k
unfolding kept_of
kept-lent kept l k a n p q = rw (p, q) (range-lent kept (start_of k) (entries_of l k))

-- ---- all tags of a file
module _ (blocks : List ℕ) (l : Label) (c : Carried l) where
  module _ (kept : List ℕ) (long : length kept ≡ kept_words) where
    pub with_long : (k : Kind) → length (with_tags blocks l k kept) ≡ kept_words
    unfolding with_tags
    with_long k = written-long kept l long c k (tags_of blocks l k) (tags_long blocks l k)

    with_same : (k : Kind) → kept_of (with_tags blocks l k kept) l k ≡ tags_of blocks l k
    unfolding with_tags
    with_same k = written_same kept l long c k (tags_of blocks l k) (tags_long blocks l k)

    with_other : (k m : Kind) → (rank m ≡ rank k → ⊥) → kept_of (with_tags blocks l k kept) l m ≡ kept_of kept l m
    unfolding with_tags
    with_other k m h = written_other kept l long c k (tags_of blocks l k) (tags_long blocks l k) m h

  module _ (kept : List ℕ) (long : length kept ≡ kept_words) where
    abbrev first : List ℕ
    first = with_tags blocks l Peripheral kept

    abbrev second : List ℕ
    second = with_tags blocks l Address first

    one : length first ≡ kept_words
    one = with_long kept long Peripheral

    two : length second ≡ kept_words
    two = with_long first one Address

    pub all-long : length (with_all_tags blocks l kept) ≡ kept_words
    unfolding with_all_tags
    all-long = with_long second two Length

    pub all-kept : kept_tags (with_all_tags blocks l kept) l ≡ file_tags blocks l
    unfolding with_all_tags
    all-kept = rw (
      with_other second two Length Peripheral (λ e. omega arith) ∙ with_other first one Address Peripheral (λ e. omega arith)
          ∙ with_same kept long Peripheral,
      with_other second two Length Address (λ e. omega arith) ∙ with_same first one Address,
      with_same second two Length,
    )

-- ---- by kind
pub of_kept : (tags : List ℕ) (l : Label) (k : Kind) → of_kind k (kept_tags tags l) ≡ kept_of tags l k
of_kept tags l Peripheral = refl
of_kept tags l Address = refl
of_kept tags l Length = refl

pub of_file : (blocks : List ℕ) (l : Label) (k : Kind) → of_kind k (file_tags blocks l) ≡ tags_of blocks l k
of_file blocks l Peripheral = refl
of_file blocks l Address = refl
of_file blocks l Length = refl

-- a record's tag is one of those kept, by the place where it was found
pub in_kept : (tags : List ℕ) (l : Label) (r : Assignment) (p n : ℕ) → length tags ≡ kept_words → Carried l
    → p ≡ place_of r.tag (kept_of tags l r.kind) → n ≡ entries_of l r.kind → ltb p n ≡ in_file (kept_tags tags l) r
unfolding in_file
in_kept tags l r p n h c e q =
    rw (of_kept tags l r.kind, kept-long tags l h c r.kind, e, q)
