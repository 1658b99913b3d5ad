-- Loops that test every element, and a stretch of a list that is read or written.
use Prim.Native.Nat.{ℕ, zero, suc, ◌+◌, ◌-◌, min, ◌≤◌, ◌<◌}
use mathlib.Core.Path.{◌≡◌, refl, sym, ap, ◌∙◌}
use mathlib.Core.Bool.{Bool, true, false}
use mathlib.Core.List.{List, ◌++◌, append_assoc, append-nil, [], ◌∷◌}
use native.Mathlib.Omega.{arith}
use native.Mathlib.Numerals.{add-one}
use native.Mathlib.Nat.{zero-add, add-zero, add-sub_of_le, add-sub_cancel_left}
use lib.ListN.{length, length-take, set, get_or, take, drop, length-drop, take-append-drop, drop_of_length-le, length-append}
use lib.ListN.{get_or-append}
use lib.Seq.{paste, paste-zero, paste-suc, length-paste, drop-paste, drop-cons, drop-length, take-length, take_at, drop_at}
use lib.Seq.{take-add, take-paste, take-append-le, drop-append-le, length-take-le, drop-drop, get_or-take, get_or-drop, get_or_at}
use lib.Seq.{take_all, ext_get_or}
use lib.Seq.{set_split, append_snoc}
use Rattle.word.proofs.Cases.{by-lt}
use Rattle.word.specs.Lists.{every, every_two, tab, range, splice}

-- ---- a loop that answers false early: "the rest decides", b ≡ every f (drop i l)
module _ {A : Type 0} where
  module _ (f : A → Bool) (d : A) (l : List A) (i : ℕ) (b : Bool) where
    pub every_more : i < length l → f (get_or l i d) ≡ true → b ≡ every f (drop i l) → b ≡ every f (drop (i + 1) l)
    unfolding every
    every_more h t q = q ∙ rw (drop-cons l i d h, t, add-one)

    pub every_fails : i < length l → f (get_or l i d) ≡ false → b ≡ every f (drop i l) → false ≡ b
    unfolding every
    every_fails h t q = sym (q ∙ rw (drop-cons l i d h, t))

    pub every-ends : length l ≤ i → b ≡ every f (drop i l) → true ≡ b
    unfolding every
    every-ends h q = sym (q ∙ rw (drop_of_length-le l h))

  module _ (f : A → A → Bool) (d : A) (l : List A) (i : ℕ) (b : Bool) where
    pub two_more : i < length l → every (f (get_or l i d)) (drop (i + 1) l) ≡ true → b ≡ every_two f (drop i l)
        → b ≡ every_two f (drop (i + 1) l)
    unfolding every_two
    two_more h t q = let u = rw add-one at t in q ∙ rw (drop-cons l i d h, u, add-one)

    pub two_fails : i < length l → every (f (get_or l i d)) (drop (i + 1) l) ≡ false → b ≡ every_two f (drop i l) → false ≡ b
    unfolding every_two
    two_fails h t q = let u = rw add-one at t in sym (q ∙ rw (drop-cons l i d h, u))

    pub two_ends : length l ≤ i → b ≡ every_two f (drop i l) → true ≡ b
    unfolding every_two
    two_ends h q = sym (q ∙ rw (drop_of_length-le l h))

-- ---- a list by what stands at each place
module _ {A : Type 0} (f : ℕ → A) where
  pub length-tab : (n : ℕ) → length (tab f n) ≡ n
  unfolding tab
  length-tab zero = refl
  length-tab (suc n) = length-append (tab f n) (f n ∷ []) ∙ ap (λ (k : ℕ). k + 1) (length-tab n) ∙ add-one n

  pub get_d_tab : (n k : ℕ) (d : A) → k < n → get_or (tab f n) k d ≡ f k
  unfolding tab
  get_d_tab zero k d h = absurd (omega arith)
  get_d_tab (suc n) k d h =
      let e = length-tab n in
      by-lt k n
      (λ l. get_or-append (tab f n) (f n ∷ []) d k (omega arith) ∙ get_d_tab n k d l)
      (λ g. let s : k ≡ n = omega arith in rw s (get_or_at (tab f n) (f n) [] d n e))

  pub take-tab : (m n : ℕ) → m ≤ n → take m (tab f n) ≡ tab f m
  unfolding tab
  take-tab m zero h = let e : m ≡ 0 = omega arith in rw e
  take-tab m (suc n) h =
      let e = length-tab n in
      by-lt m (suc n)
      (λ l. take-append-le m (tab f n) (f n ∷ []) (omega arith) ∙ take-tab m n (omega arith))
      (λ g. let s : m ≡ suc n = omega arith in rw s (take_all (suc n) (tab f (suc n)) (omega (arith, length-tab (suc n)))))

-- ---- a stretch that is read
pub length-range : (l : List ℕ) (a n : ℕ) → a + n ≤ length l → length (range l a n) ≡ n
unfolding range
length-range l a n h = length-take-le n (drop a l) (rw length-drop (omega arith))

pub length-range-min : (l : List ℕ) (a n : ℕ) → length (range l a n) ≡ min n (length l - a)
unfolding range
length-range-min l a n = simp (length-take, length-drop)

pub get_d_range : (l : List ℕ) (a n i : ℕ) → i < n → get_or (range l a n) i 0 ≡ get_or l (a + i) 0
unfolding range
get_d_range l a n i h = rw (get_or-take, get_or-drop)

pub length-range_most : (l : List ℕ) (a n : ℕ) → length (range l a n) ≤ n
length-range_most l a n = omega (arith, length-range-min l a n)

-- a loop from place i up to place last: what is left is `range l i (last - i)`; a turn takes its first number, at the end none is
-- left
module _ (l : List ℕ) (i last : ℕ) where
  pub range_turn : i < last → last ≤ length l → range l i (last - i) ≡ get_or l i 0 ∷ range l (i + 1) (last - (i + 1))
  unfolding range
  range_turn h k =
      let e : last - i ≡ suc (last - (i + 1)) = omega arith in
      rw (e, drop-cons l i 0 (omega arith), add-one i)

  pub range_end : last ≤ i → range l i (last - i) ≡ []
  unfolding range
  range_end h =
      let e : last - i ≡ 0 = omega arith in
      rw e

-- what a part lent as `&l[a..a + n]` holds
pub range-lent : (l : List ℕ) (a n : ℕ) → take (a + n - a) (drop a l) ≡ range l a n
unfolding range
range-lent l a n = rw add-sub_cancel_left

-- ---- a stretch that is written
pub length-splice : (l : List ℕ) (a : ℕ) (vs : List ℕ) → a + length vs ≤ length l → length (splice l a vs) ≡ length l
unfolding splice
length-splice l a vs h = length-paste l a vs (length vs) h (omega arith)

-- what was written is read
pub range-splice-same : (l : List ℕ) (a : ℕ) (vs : List ℕ) → a + length vs ≤ length l → range (splice l a vs) a (length vs) ≡ vs
unfolding splice range
range-splice-same l a vs h =
    ap (λ (m : List ℕ). take (length vs) m)
    (ap (drop a) (append_assoc (take a l) (take (length vs) vs) (drop (a + length vs) l))
    ∙ drop_at (take a l) _ a (length-take-le a l (omega arith)))
    ∙ ap (λ (m : List ℕ). take (length vs) (m ++ drop (a + length vs) l)) (take-length vs)
    ∙ take_at vs _ (length vs) refl

-- a stretch that lies in the first of two lists
front : (p q : List ℕ) (to n : ℕ) → to + n ≤ length p → take n (drop to (p ++ q)) ≡ take n (drop to p)
front p q to n h =
    ap (take n) (drop-append-le to p q (omega arith)) ∙ take-append-le n (drop to p) q (rw length-drop (omega arith))

-- what stands before the written stretch, and after it, is as it was
pub range-splice-before : (l : List ℕ) (a : ℕ) (vs : List ℕ) (to n : ℕ) → to + n ≤ a → a + length vs ≤ length l
    → range (splice l a vs) to n ≡ range l to n
unfolding splice range
range-splice-before l a vs to n h k =
    let s : length (take a l) ≡ a = length-take-le a l (omega arith) in
    ap (λ (m : List ℕ). take n (drop to m)) (append_assoc (take a l) (take (length vs) vs) (drop (a + length vs) l))
    ∙ front (take a l) _ to n (omega arith)
    ∙ sym (front (take a l) (drop a l) to n (omega arith))
    ∙ ap (λ (m : List ℕ). take n (drop to m)) (take-append-drop a l)

pub range-splice-after : (l : List ℕ) (a : ℕ) (vs : List ℕ) (to n : ℕ) → a + length vs ≤ to → a + length vs ≤ length l
    → range (splice l a vs) to n ≡ range l to n
unfolding splice range
range-splice-after l a vs to n h k =
    ap (take n)
    (ap (λ (j : ℕ). drop j (splice l a vs)) (sym (add-sub_of_le h))
    ∙ sym (drop-drop (to - (a + length vs)) (a + length vs) (splice l a vs))
    ∙ ap (drop (to - (a + length vs))) (drop-paste l a vs (length vs) (omega arith) (omega arith))
    ∙ drop-drop (to - (a + length vs)) (a + length vs) l
    ∙ ap (λ (j : ℕ). drop j l) (add-sub_of_le h))

-- number by number
pub get_d_splice_in : (l : List ℕ) (a : ℕ) (vs : List ℕ) (i : ℕ) → i < length vs → a + length vs ≤ length l
    → get_or (splice l a vs) (a + i) 0 ≡ get_or vs i 0
get_d_splice_in l a vs i h k =
    sym (get_d_range (splice l a vs) a (length vs) i h) ∙ ap (λ (m : List ℕ). get_or m i 0) (range-splice-same l a vs k)

-- a number read alone
range_one : (l : List ℕ) (j : ℕ) → get_or (range l j 1) 0 0 ≡ get_or l j 0
range_one l j = get_d_range l j 1 0 (omega arith) ∙ ap (λ (k : ℕ). get_or l k 0) (omega arith)

pub get_d_splice_out : (l : List ℕ) (a : ℕ) (vs : List ℕ) (j : ℕ) → a + length vs ≤ length l → (a ≤ j → j < a + length vs → ⊥)
    → get_or (splice l a vs) j 0 ≡ get_or l j 0
get_d_splice_out l a vs j k h =
    sym (range_one (splice l a vs) j) ∙ ap (λ (m : List ℕ). get_or m 0 0) same ∙ range_one l j
  where
    same : range (splice l a vs) j 1 ≡ range l j 1
    same = by-lt j a
        (λ p. range-splice-before l a vs j 1 (omega arith) k)
        (λ p. by-lt j (a + length vs) (λ q. absurd (h p q)) (λ q. range-splice-after l a vs j 1 q k))

-- written inside a stretch: the stretch is written so
pub range-splice_inner : (l : List ℕ) (a n o : ℕ) (vs : List ℕ) → a + n ≤ length l → o + length vs ≤ n
    → range (splice l (a + o) vs) a n ≡ splice (range l a n) o vs
range-splice_inner l a n o vs h k =
    let r : length (range l a n) ≡ n = length-range l a n h in
    let w : length (splice l (a + o) vs) ≡ length l = length-splice l (a + o) vs (omega arith) in
    let s : length (range (splice l (a + o) vs) a n) ≡ n = length-range (splice l (a + o) vs) a n (omega arith) in
    let t : length (splice (range l a n) o vs) ≡ n = length-splice (range l a n) o vs (omega arith) ∙ r in
    ext_get_or 0 _ _ (s ∙ sym t)
    (λ i g. let m : i < n = omega arith in
    get_d_range (splice l (a + o) vs) a n i m ∙ by-lt i o
    (λ p. get_d_splice_out l (a + o) vs (a + i) (omega arith) (λ x y. omega arith)
    ∙ sym (get_d_splice_out (range l a n) o vs i (omega arith) (λ x y. omega arith) ∙ get_d_range l a n i m))
    (λ p. by-lt i (o + length vs)
    (λ q. let e : a + o + (i - o) ≡ a + i = omega arith in let f : o + (i - o) ≡ i = omega arith in
    rw e at (get_d_splice_in l (a + o) vs (i - o) (omega arith) (omega arith))
    ∙ sym (rw f at (get_d_splice_in (range l a n) o vs (i - o) (omega arith) (omega arith))))
    (λ q. get_d_splice_out l (a + o) vs (a + i) (omega arith) (λ x y. omega arith)
    ∙ sym (get_d_splice_out (range l a n) o vs i (omega arith) (λ x y. omega arith) ∙ get_d_range l a n i m))))

-- one number written
pub set-splice : (l : List ℕ) (i v : ℕ) → i < length l → set l i v ≡ splice l i (v ∷ [])
unfolding splice
set-splice l i v h = set_split l i v h ∙ rw add-one (sym (append_snoc (take i l) v (drop (suc i) l)))

-- all of it replaced
pub splice-whole : (l vs : List ℕ) → length vs ≡ length l → splice l 0 vs ≡ vs
unfolding splice
splice-whole l vs e = rw (take-length, zero-add, e, drop-length) (append-nil vs)

-- what is left when a part lent as `&mut l[a..a + n]` comes back with vs at its start
pub splice-lent : (l : List ℕ) (a n : ℕ) (vs : List ℕ) → a + n ≤ length l → length vs ≤ n
    → take a l ++ (splice (take (a + n - a) (drop a l)) 0 vs ++ drop (a + n - a) (drop a l)) ≡ splice l a vs
unfolding splice
splice-lent l a n vs h k =
    let d = drop a l in
    let t : length (take n d) ≡ n = length-take-le n d (rw length-drop (omega arith)) in
    rw (
      add-sub_cancel_left,
      take-length,
      zero-add,
      append_assoc vs (drop (length vs) (take n d)) (drop n d),
      ← drop-append-le
          (length vs) (take n d) (drop n d) (omega arith),
      take-append-drop n d,
      drop-drop (length vs) a l,
    )
    (sym (append_assoc (take a l) vs (drop (a + length vs) l)))

-- the same where all of the part was written
pub lent-whole : (l : List ℕ) (a n : ℕ) (vs : List ℕ) → a + n ≤ length l → length vs ≡ n
    → take a l ++ (vs ++ drop (a + n - a) (drop a l)) ≡ splice l a vs
lent-whole l a n vs h k =
    let t = take (a + n - a) (drop a l) in
    let e : length vs ≡ length t = k ∙ sym (ap length (range-lent l a n) ∙ length-range l a n h) in
    rw (splice-whole t vs e) at (splice-lent l a n vs h (omega arith))

-- ---- the loop that writes a stretch: l with the first i numbers of s from place a on
unfoldable pub copied : List ℕ → ℕ → List ℕ → ℕ → List ℕ
copied l a s i = paste l a s i

pub copied_none : (l : List ℕ) (a : ℕ) (s : List ℕ) → l ≡ copied l a s 0
unfolding copied
copied_none l a s = paste-zero l a s

pub copied_more : (l : List ℕ) (a : ℕ) (s : List ℕ) (i : ℕ) (e : List ℕ) (v : ℕ) → a + i < length l → i < length s → v ≡ get_or s i 0
    → e ≡ copied l a s i
    → set e (a + i) v ≡ copied l a s (i + 1)
unfolding copied
copied_more l a s i e v h k w q = rw (q, w, add-one) (paste-suc l a s i 0 h k)

-- the same from the start of the list on
pub copied_next : (l s : List ℕ) (i : ℕ) (e : List ℕ) (v : ℕ) → i < length l → i < length s → v ≡ get_or s i 0 → e ≡ copied l 0 s i
    → set e i v ≡ copied l 0 s (i + 1)
copied_next l s i e v h k w q = rw zero-add at (copied_more l 0 s i e v (omega arith) k w q)

pub copied_all : (l : List ℕ) (a : ℕ) (s : List ℕ) (i : ℕ) (e : List ℕ) → length s ≡ i → e ≡ copied l a s i → e ≡ splice l a s
unfolding copied splice
copied_all l a s i e h q = rw (q, ← h)

-- a stretch of s number by number, to the same places of l
module _ (l s : List ℕ) (a n : ℕ) (into : a + n ≤ length l) (from : a + n ≤ length s) where
  pub copied_at : (k : ℕ) (e : List ℕ) → k < n → e ≡ copied l a (range s a n) k
      → set e (a + k) (get_or s (a + k) 0) ≡ copied l a (range s a n) (k + 1)
  copied_at k e h q =
      let r = length-range s a n from in
      copied_more l a (range s a n) k e _ (omega arith) (omega arith) (sym (get_d_range s a n k h)) q

  pub copied-first : 0 < n → set l a (get_or s a 0) ≡ copied l a (range s a n) 1
  copied-first h = rw (add-zero a) at (copied_at 0 l h (copied_none l a (range s a n)))

  -- what was alike up to the stretch is alike past it
  pub alike_more : take a l ≡ take a s → take (a + n) (splice l a (range s a n)) ≡ take (a + n) s
  unfolding splice range
  alike_more q =
      let r : length (range s a n) ≡ n = length-range s a n from in
      rw r
      (take-paste l a (range s a n) n (omega arith) (omega arith) ∙ rw (take-add a n s, q, take_all n (range s a n) (omega arith)))

pub alike_all : (l s : List ℕ) (a : ℕ) → a ≤ length s → length l ≡ length s → take a l ≡ take a s
    → splice l a (range s a (length s - a)) ≡ s
alike_all l s a h e q =
    let n = length s - a in
    let r : length (range s a n) ≡ n = length-range s a n (omega arith) in
    let w : length (splice l a (range s a n)) ≡ length l = length-splice l a (range s a n) (omega arith) in
    sym (take_all (a + n) (splice l a (range s a n)) (omega arith))
    ∙ alike_more l s a n (omega arith) (omega arith) q
    ∙ take_all (a + n) s (omega arith)
