-- Kept words that pass the one pass are read as tables that obey refusal 8, whatever numbers the ranks are.
use Rattle.std.proofs.Common.{◌≡◌, ℕ, zero, suc, ◌+◌, ◌<◌, ◌≤◌, true, eqb, ltb, leb, ◌⊎◌, List, [], ◌∷◌, length, get_or, sym, refl, ap, ◌∙◌, inl, inr, ⊎_elim, arith, ltb-true, eqb-true, leb-true}
use Rattle.word.specs.declared.Area.{Area}
use Rattle.word.specs.declared.Absolute.{Absolute}
use Rattle.word.specs.Runs.{within}
use Rattle.word.proofs.Cases.{by-test, by-lt, when, and_both, and_left, and_right}
use Rattle.word.proofs.Every.{every_by, two_by}
use Rattle.word.proofs.Says.{says_within}
use Rattle.lists.specs.declared.Table.{Table}
use Rattle.lists.specs.HowKept.{address_in, length_in, table_number_in, table_of, rank_in, away_in, empty_in, table_by, table_at}
use Rattle.lists.specs.HowKept.{tables_in}
use Rattle.lists.specs.HowChain.{chain_from, chain}
use Rattle.lists.specs.Obey.{table_inside, tables_apart, tables_obey}
use Rattle.lists.proofs.Kept.{tables-length, tables-at}
use Rattle.lists.proofs.Obey.{says_inside, first_empty, second_empty, first-before, apart_sym}

-- ---- along the words
chain-last : (end last : ℕ) (ws : List ℕ) → chain_from end last ws ≡ true → end ≤ last
unfolding chain_from
chain-last end last [] q = leb-true end last q
chain-last end last (w ∷ ws) q =
    let a = leb-true end (address_in w) (and_left (leb end (address_in w)) _ q) in
    let b = chain-last (address_in w + length_in w) last ws (and_right (leb end (address_in w)) _ q) in
    omega arith

-- the word at place p lies between the ends
chain-at : (end last : ℕ) (ws : List ℕ) → chain_from end last ws ≡ true → (p : ℕ) → p < length ws
    → (end ≤ address_in (get_or ws p 0)) × (address_in (get_or ws p 0) + length_in (get_or ws p 0) ≤ last)
unfolding chain_from
chain-at end last [] q p h = absurd (omega arith)
chain-at end last (w ∷ ws) q zero h = (
  leb-true end (address_in w) (and_left (leb end (address_in w)) _ q),
  chain-last (address_in w + length_in w) last ws (and_right (leb end (address_in w)) _ q),
)
chain-at end last (w ∷ ws) q (suc p) h =
    let a = leb-true end (address_in w) (and_left (leb end (address_in w)) _ q) in
    let b = chain-at (address_in w + length_in w) last ws (and_right (leb end (address_in w)) _ q) p (omega arith) in
    (omega arith, b.1)

-- and before the words that follow it
chain-before : (end last : ℕ) (ws : List ℕ) → chain_from end last ws ≡ true → (p q : ℕ) → p < q → q < length ws
    → address_in (get_or ws p 0) + length_in (get_or ws p 0) ≤ address_in (get_or ws q 0)
unfolding chain_from
chain-before end last [] t p q l h = absurd (omega arith)
chain-before end last (w ∷ ws) t p zero l h = absurd (omega arith)
chain-before end last (w ∷ ws) t zero (suc q) l h =
    (chain-at (address_in w + length_in w) last ws (and_right (leb end (address_in w)) _ t) q (omega arith)).0
chain-before end last (w ∷ ws) t (suc p) (suc q) l h =
    chain-before (address_in w + length_in w) last ws (and_right (leb end (address_in w)) _ t) p q (omega arith) (omega arith)

module _ (area : Area) (ws : List ℕ) (ok : chain area ws ≡ true) where
  word_inside : (p : ℕ) → p < length ws → table_inside area (table_of (get_or ws p 0)) ≡ true
  unfolding chain table_of
  word_inside p h =
      (says_inside area (table_of (get_or ws p 0))).test (chain-at area.at.0 (area.at.0 + area.size) ws ok p h)

  in_order_lem : (p q : ℕ) → p < q → q < length ws → tables_apart (table_of (get_or ws p 0)) (table_of (get_or ws q 0)) ≡ true
  unfolding chain table_of
  in_order_lem p q l h =
      first-before (table_of (get_or ws p 0)) (table_of (get_or ws q 0))
      (chain-before area.at.0 (area.at.0 + area.size) ws ok p q l h)

  words_apart : (p q : ℕ) → (p ≡ q → ⊥) → p < length ws → q < length ws
      → tables_apart (table_of (get_or ws p 0)) (table_of (get_or ws q 0)) ≡ true
  words_apart p q n h k =
      by-lt p q
      (λ l. in_order_lem p q l k)
      (λ l. apart_sym (table_of (get_or ws q 0)) (table_of (get_or ws p 0)) (in_order_lem q p (omega arith) h))

-- ---- the tables as they are read: by the word at the rank, which bears the table's number, or as an empty table
abbrev Found : Area → List ℕ → ℕ → ℕ → Type 0
Found area ws r k =
    (rank_in r < length ws) × (table_number_in (get_or ws (rank_in r) 0) ≡ k) × (table_by area ws r k ≡ table_of (get_or ws (rank_in r) 0))

found : (area : Area) (ws : List ℕ) (r k : ℕ) → Found area ws r k ⊎ (table_by area ws r k ≡ empty_in area (away_in r))
unfolding table_by
found area ws r k =
    by-test (ltb (rank_in r) (length ws))
    (λ a. by-test (eqb (table_number_in (get_or ws (rank_in r) 0)) k)
    (λ b. inl (ltb-true (rank_in r) (length ws) a, eqb-true (table_number_in (get_or ws (rank_in r) 0)) k b, rw (a, b)))
    (λ b. inr (rw (a, b))))
    (λ a. inr (rw a))

empty_inside : (area : Area) (a : ℕ) → table_inside area (empty_in area a) ≡ true
unfolding empty_in
empty_inside area a =
    let s = says_within a 0 area.at.0 area.size in
    when (λ (x : Absolute). table_inside area (record { at = x; len = 0 }) ≡ true) (within a 0 area.at.0 area.size)
    (λ q. (says_inside area (record { at = record { 0 = a }; len = 0 })).test (s.fact q))
    (λ q. (says_inside area (record { at = area.at; len = 0 })).test (omega arith, omega arith))

module _ (area : Area) (ws : List ℕ) (ok : chain area ws ≡ true) where
  table-inside : (r k : ℕ) → table_inside area (table_by area ws r k) ≡ true
  table-inside r k =
      ⊎_elim
      (λ f. rw f.2 (word_inside area ws ok (rank_in r) f.0))
      (λ e. rw e (empty_inside area (away_in r)))
      (found area ws r k)

  -- two words at one place bear one number, so tables of two numbers stand at two places
  table-apart : (r s k j : ℕ) → (k ≡ j → ⊥) → tables_apart (table_by area ws r k) (table_by area ws s j) ≡ true
  unfolding empty_in
  table-apart r s k j n =
      ⊎_elim
      (λ f. ⊎_elim
      (λ g. rw (f.2, g.2)
      (words_apart area ws ok (rank_in r) (rank_in s) (λ e. n (sym f.1 ∙ ap (λ (p : ℕ). table_number_in (get_or ws p 0)) e ∙ g.1))
      f.0 g.0))
      (λ e. rw e (second_empty (table_by area ws r k) (empty_in area (away_in s)) refl))
      (found area ws s j))
      (λ e. rw e (first_empty (empty_in area (away_in r)) (table_by area ws s j) refl))
      (found area ws r k)

  module _ (rs : List ℕ) where
    -- any table will do for a place past the end
    none : Table
    none = empty_in area 0

    read : (k : ℕ) → k < length (tables_in area ws rs) → get_or (tables_in area ws rs) k none ≡ table_by area ws (get_or rs k 0) k
    unfolding table_at
    read k h = let e = tables-length area ws rs in tables-at area ws rs k none (omega arith)

    pub order_sound : tables_obey area (tables_in area ws rs) ≡ true
    unfolding tables_obey
    order_sound =
        and_both _ _
        (every_by none (table_inside area) (tables_in area ws rs)
        (λ i h. rw (read i h) (table-inside (get_or rs i 0) i)))
        (two_by none tables_apart (tables_in area ws rs)
        (λ i j l h. rw (read i (omega arith), read j h) (table-apart (get_or rs i 0) (get_or rs j 0) i j (λ e. omega arith))))
