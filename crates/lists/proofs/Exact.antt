-- The words that are kept for tables that lie in the area pass the one pass just when no two of the tables share a word.
use Rattle.std.proofs.Common.{◌≡◌, ℕ, suc, ◌+◌, ◌/◌, ◌^◌, ◌<◌, ◌≤◌, Bool, true, false, ◌&&◌, ltb, leb, List, [], ◌∷◌, length, get_or, sym, refl, ap, ◌∙◌, arith, eq-eqb, ne_eqb, le-leb, leb-true}
use Rattle.word.specs.declared.Area.{Area}
use Rattle.word.specs.Lists.{every, every_two}
use Rattle.word.specs.Runs.{Says}
use Rattle.word.proofs.Cases.{by-eq, and_both, and_left, and_right}
use Rattle.word.proofs.Every.{every-place, every-then}
use Rattle.word.proofs.Says.{says_lt, says_le, says_and}
use Rattle.lists.specs.declared.Table.{Table}
use Rattle.lists.specs.HowKept.{address_in, length_in, table_number_in, table_of}
use Rattle.lists.specs.HowChain.{chain_from, chain}
use Rattle.lists.specs.Obey.{tables_of, no_table, table_inside, tables_apart}
use Rattle.lists.specs.HowKeep.{kept_word, has_room, words_from, words_kept}
use Rattle.sorting.specs.Sorted.{sorted}
use Rattle.lists.proofs.Lent.{lent_length}
use Rattle.lists.proofs.Obey.{says_inside, first_empty, second_empty, first-before, apart-before, apart_sym}
use Rattle.sorting.proofs.Rising.{every-sorted, two_sorted, sorted_rising, rising_sorted}

pub same_test : (a b : Bool) → (a ≡ true → b ≡ true) → (b ≡ true → a ≡ true) → a ≡ b
same_test true b f g = sym (f refl)
same_test false true f g = g refl
same_test false false f g = refl

-- ---- the pass and the pairs, of words
unfoldable clear : ℕ → ℕ → Bool
clear w v = tables_apart (table_of w) (table_of v)

clear_sym : (w v : ℕ) → clear w v ≡ clear v w
unfolding clear
clear_sym w v = same_test _ _ (apart_sym (table_of w) (table_of v)) (apart_sym (table_of v) (table_of w))

chain-clear : (w end last : ℕ) (l : List ℕ) → address_in w + length_in w ≤ end → chain_from end last l ≡ true
    → every (clear w) l ≡ true
unfolding chain_from every clear table_of
chain-clear w end last [] h q = refl
chain-clear w end last (v ∷ l) h q =
    let a = leb-true end (address_in v) (and_left (leb end (address_in v)) _ q) in
    and_both (clear w v) _ (first-before (table_of w) (table_of v) (omega arith))
    (chain-clear w (address_in v + length_in v) last l (omega arith) (and_right (leb end (address_in v)) _ q))

chain_pairs : (end last : ℕ) (l : List ℕ) → chain_from end last l ≡ true → every_two clear l ≡ true
unfolding chain_from every_two
chain_pairs end last [] q = refl
chain_pairs end last (w ∷ l) q =
    let t = and_right (leb end (address_in w)) _ q in
    and_both _ _ (chain-clear w (address_in w + length_in w) last l (omega arith) t) (chain_pairs (address_in w + length_in w) last l t)

-- a word of 64 bits whose table is not empty and lies from end to last
unfoldable lies : ℕ → ℕ → ℕ → Bool
lies end last w = (ltb w (2 ^ 64) && ltb 0 (length_in w)) && (leb end (address_in w) && leb (address_in w + length_in w) last)

says_lies : (end last w : ℕ)
    → Says (lies end last w) (((w < 2 ^ 64) × (0 < length_in w)) × ((end ≤ address_in w) × (address_in w + length_in w ≤ last)))
unfolding lies
says_lies end last w = says_and (says_and (says_lt _ _) (says_lt _ _)) (says_and (says_le _ _) (says_le _ _))

-- after the word w, words that are not less and share none with it lie from its end on
next_lies : (end last w : ℕ) (l : List ℕ) → 0 < length_in w → every (leb w) l ≡ true → every (clear w) l ≡ true
    → every (lies end last) l ≡ true
    → every (lies (address_in w + length_in w) last) l ≡ true
unfolding every clear table_of
next_lies end last w [] f r c t = refl
next_lies end last w (v ∷ l) f r c t =
    let a = leb-true w v (and_left (leb w v) _ r) in
    let b = (says_lies end last v).fact (and_left (lies end last v) _ t) in
    let g = apart-before (table_of w) (table_of v) (and_left (clear w v) _ c) f b.0.1 (omega arith) in
    and_both _ _ ((says_lies (address_in w + length_in w) last v).test (b.0, (g, b.1.1)))
    (next_lies end last w l f (and_right (leb w v) _ r) (and_right (clear w v) _ c) (and_right (lies end last v) _ t))

pairs_chain : (end last : ℕ) (l : List ℕ) → end ≤ last → every_two leb l ≡ true → every (lies end last) l ≡ true
    → every_two clear l ≡ true
    → chain_from end last l ≡ true
unfolding chain_from every_two every
pairs_chain end last [] h r t c = le-leb end last h
pairs_chain end last (w ∷ l) h r t c =
    let b = (says_lies end last w).fact (and_left (lies end last w) _ t) in
    and_both _ _ (le-leb end (address_in w) b.1.0)
    (pairs_chain (address_in w + length_in w) last l b.1.1 (and_right (every (leb w) l) _ r)
    (next_lies end last w l b.0.1 (and_left (every (leb w) l) _ r) (and_left (every (clear w) l) _ c)
    (and_right (lies end last w) _ t))
    (and_right (every (clear w) l) _ c))

-- words whose tables are not empty and lie from end to last: sorted, the pass says what all pairs say
chain_says : (end last : ℕ) (l : List ℕ) → end ≤ last → every (lies end last) l ≡ true
    → chain_from end last (sorted l) ≡ every_two clear l
chain_says end last l h t =
    same_test _ _
    (λ q. sym (two_sorted clear clear_sym l) ∙ chain_pairs end last (sorted l) q)
    (λ q. pairs_chain end last (sorted l) h (sorted_rising l) (every-sorted (lies end last) l ∙ t)
    (two_sorted clear clear_sym l ∙ q))

-- ---- from the tables to their words
pub says_room : (t : Table) → Says (has_room t) ((t.at.0 < 2 ^ 24) × (t.len < 2 ^ 20))
unfolding has_room
says_room t = says_and (says_lt _ _) (says_lt _ _)

pub lent_room : (l : List ℕ) (k : ℕ) (t : Table) → every has_room (tables_of l) ≡ true → k < length l / 2
    → t ≡ get_or (tables_of l) k no_table → (t.at.0 < 2 ^ 24) × (t.len < 2 ^ 20)
lent_room l k t q h e =
    let n = lent_length l in
    (says_room t).fact (rw e (every-place no_table has_room (tables_of l) k (omega arith) q))

module _ (k : ℕ) (t : Table) (few : k < 2 ^ 20) (room : has_room t ≡ true) where
  pub word_address : address_in (kept_word k t) ≡ t.at.0
  word_address = let r = (says_room t).fact room in omega arith

  pub word_length : length_in (kept_word k t) ≡ t.len
  word_length = let r = (says_room t).fact room in omega arith

  pub word_number : table_number_in (kept_word k t) ≡ k
  word_number = let r = (says_room t).fact room in omega arith

  pub word_table : table_of (kept_word k t) ≡ t
  unfolding table_of
  word_table = rw (word_address, word_length)

module _ (area : Area) where
  words_lie_lem : (k : ℕ) (ts : List Table) → k + length ts ≤ 2 ^ 20 → every has_room ts ≡ true → every (table_inside area) ts ≡ true
      → every (lies area.at.0 (area.at.0 + area.size)) (words_from k ts) ≡ true
  unfolding words_from every
  words_lie_lem k [] n m q = refl
  words_lie_lem k (t ∷ ts) n m q =
      let rest = words_lie_lem (suc k) ts (omega arith) (and_right (has_room t) _ m) (and_right (table_inside area t) _ q) in
      let room = and_left (has_room t) _ m in
      let r = (says_room t).fact room in
      let i = (says_inside area t).fact (and_left (table_inside area t) _ q) in
      let g : k < 2 ^ 20 = omega arith in
      let a = word_address k t g room in
      let e = word_length k t g room in
      by-eq t.len 0
      (λ z. rw (eq-eqb t.len 0 z) rest)
      (λ z. rw (ne_eqb t.len 0 z)
      (and_both _ _ ((says_lies area.at.0 (area.at.0 + area.size) (kept_word k t)).test
      ((omega arith, omega arith), (omega arith, omega arith))) rest))

clear_words : (j k : ℕ) (t : Table) (ts : List Table) → j < 2 ^ 20 → has_room t ≡ true → k + length ts ≤ 2 ^ 20
    → every has_room ts ≡ true
    → every (clear (kept_word j t)) (words_from k ts) ≡ every (tables_apart t) ts
unfolding words_from every clear
clear_words j k t [] m s n r = refl
clear_words j k t (u ∷ ts) m s n r =
    let rest = clear_words j (suc k) t ts m s (omega arith) (and_right (has_room u) _ r) in
    let v = and_left (has_room u) _ r in
    let g : k < 2 ^ 20 = omega arith in
    by-eq u.len 0
    (λ z. rw (eq-eqb u.len 0 z, second_empty t u z) rest)
    (λ z. rw (ne_eqb u.len 0 z, word_table j t m s, word_table k u g v) (ap (λ (b : Bool). tables_apart t u && b) rest))

empty_clear : (t : Table) (ts : List Table) → t.len ≡ 0 → every (tables_apart t) ts ≡ true
unfolding every
empty_clear t [] z = refl
empty_clear t (u ∷ ts) z = rw (first_empty t u z) (empty_clear t ts z)

pairs_words : (k : ℕ) (ts : List Table) → k + length ts ≤ 2 ^ 20 → every has_room ts ≡ true
    → every_two clear (words_from k ts) ≡ every_two tables_apart ts
unfolding words_from every_two every
pairs_words k [] n r = refl
pairs_words k (t ∷ ts) n r =
    let m = and_right (has_room t) _ r in
    let rest = pairs_words (suc k) ts (omega arith) m in
    by-eq t.len 0
    (λ z. rw (eq-eqb t.len 0 z, empty_clear t ts z) rest)
    (λ z. rw (ne_eqb t.len 0 z, clear_words k (suc k) t ts (omega arith) (and_left (has_room t) _ r) (omega arith) m, rest))

-- of tables that lie in the area: the pass over the kept words says whether two share a word
pub order_exact : (area : Area) (ts : List Table) → length ts ≤ 2 ^ 20 → every has_room ts ≡ true
    → every (table_inside area) ts ≡ true
    → chain area (words_kept ts) ≡ every_two tables_apart ts
unfolding chain words_kept
order_exact area ts n r q =
    chain_says area.at.0 (area.at.0 + area.size) (words_from 0 ts) (omega arith) (words_lie_lem area 0 ts (omega arith) r q)
    ∙ pairs_words 0 ts (omega arith) r

-- ---- what lies in the area has room in a word
inside_room : (area : Area) (t : Table) → area.at.0 + area.size < 2 ^ 20 → table_inside area t ≡ true → has_room t ≡ true
inside_room area t h q = let i = (says_inside area t).fact q in (says_room t).test (omega arith, omega arith)

pub all_room : (area : Area) (ts : List Table) → area.at.0 + area.size < 2 ^ 20 → every (table_inside area) ts ≡ true
    → every has_room ts ≡ true
all_room area ts h q = every-then (table_inside area) has_room (λ t i. inside_room area t h i) ts q

-- ---- words that pass as they stand rise already
chain-above : (w end last from to : ℕ) (l : List ℕ) → address_in w < end → w < 2 ^ 64 → every (lies from to) l ≡ true
    → chain_from end last l ≡ true
    → every (leb w) l ≡ true
unfolding chain_from every
chain-above w end last from to [] h f t q = refl
chain-above w end last from to (v ∷ l) h f t q =
    let a = leb-true end (address_in v) (and_left (leb end (address_in v)) _ q) in
    let b = (says_lies from to v).fact (and_left (lies from to v) _ t) in
    and_both _ _ (le-leb w v (omega arith))
    (chain-above w (address_in v + length_in v) last from to l (omega arith) f (and_right (lies from to v) _ t)
    (and_right (leb end (address_in v)) _ q))

chain_rising : (end last from to : ℕ) (l : List ℕ) → every (lies from to) l ≡ true → chain_from end last l ≡ true
    → every_two leb l ≡ true
unfolding chain_from every every_two
chain_rising end last from to [] t q = refl
chain_rising end last from to (w ∷ l) t q =
    let b = (says_lies from to w).fact (and_left (lies from to w) _ t) in
    let s = and_right (lies from to w) _ t in
    let n = and_right (leb end (address_in w)) _ q in
    and_both _ _ (chain-above w (address_in w + length_in w) last from to l (omega arith) b.0.0 s n)
    (chain_rising (address_in w + length_in w) last from to l s n)

pub kept_already : (area : Area) (ts : List Table) → length ts ≤ 2 ^ 20 → every has_room ts ≡ true
    → every (table_inside area) ts ≡ true
    → chain area (words_from 0 ts) ≡ true → words_kept ts ≡ words_from 0 ts
unfolding chain words_kept
kept_already area ts n r q t =
    rising_sorted (words_from 0 ts)
    (chain_rising area.at.0 (area.at.0 + area.size) area.at.0 (area.at.0 + area.size) (words_from 0 ts)
    (words_lie_lem area 0 ts (omega arith) r q) t)
