-- Stores one after another into a core: in an area that was zero each word is that of the last store that reaches it.
use Prim.Native.Nat.{ℕ, ◌+◌, ◌-◌, ◌≤◌, ◌<◌}
use mathlib.Core.Path.{◌≡◌, refl, sym, ap, ◌∙◌}
use mathlib.Core.Bool.{Bool, true, false, cond, ◌||◌}
use mathlib.Core.List.{List, [], ◌∷◌}
use native.Mathlib.Omega.{arith}
use lib.ListN.{length, get_or}
use lib.Seq.{ext_get_or}
use borrow.Author.Tests.{le-leb, lt-leb, lt-ltb, le-ltb}
use Rattle.word.specs.Lists.{range, splice, tab}
use Rattle.word.specs.declared.Area.{Area}
use Rattle.word.proofs.Cases.{by-lt}
use Rattle.word.proofs.Lists.{length-splice, length-range, get_d_range, get_d_splice_in, get_d_splice_out, length-tab, get_d_tab}
use Rattle.demands.specs.Image.{Store, reaches, reached, word_from}

-- the core after the stores
unfoldable pub store_all : List ℕ → List Store → List ℕ
store_all core [] = core
store_all core (s ∷ later) = store_all (splice core s.at s.words) later

-- a store lies in the area
pub record Inside (area : Area) (s : Store) : Type 0 where
  pub first : area.at.0 ≤ s.at
  pub last : s.at + length s.words ≤ area.at.0 + area.size

unfoldable pub AllInside : Area → List Store → Type 0
AllInside area [] = Unit {0}
AllInside area (s ∷ later) = Inside area s × AllInside area later

-- one store, seen from address j
store_word : (core : List ℕ) (s : Store) (j : ℕ) → s.at + length s.words ≤ length core
    → get_or (splice core s.at s.words) j 0 ≡ cond (reaches s j) (get_or s.words (j - s.at) 0) (get_or core j 0)
store_word core s j h =
    by-lt j s.at
    (λ p. rw (lt-leb s.at j p) (get_d_splice_out core s.at s.words j h (λ x y. omega arith)))
    (λ p. by-lt j (s.at + length s.words)
    (λ q. let e : s.at + (j - s.at) ≡ j = omega arith in
    rw (le-leb s.at j p, lt-ltb j (s.at + length s.words) q)
    (rw e at (get_d_splice_in core s.at s.words (j - s.at) (omega arith) h)))
    (λ q. rw (le-leb s.at j p, le-ltb j (s.at + length s.words) q)
    (get_d_splice_out core s.at s.words j h (λ x y. omega arith))))

-- the later stores decide, then this one, then what stood there
then_word : (r q : Bool) (u v w : ℕ) → cond r u (cond q v w) ≡ cond (r || q) (cond r u (cond q v 0)) w
then_word true q u v w = refl
then_word false true u v w = refl
then_word false false u v w = refl

module _ (area : Area) where
  pub store_length : (stores : List Store) (core : List ℕ) → area.at.0 + area.size ≤ length core → AllInside area stores
      → length (store_all core stores) ≡ length core
  unfolding store_all AllInside
  store_length [] core h f = refl
  store_length (s ∷ later) core h f =
      let e : length (splice core s.at s.words) ≡ length core = length-splice core s.at s.words
      (omega (arith, f.0.last)) in
      store_length later (splice core s.at s.words) (rw e h) f.1 ∙ e

  stores_word : (stores : List Store) (core : List ℕ) (j : ℕ) → area.at.0 + area.size ≤ length core → AllInside area stores
      → get_or (store_all core stores) j 0 ≡ cond (reached stores j) (word_from stores j) (get_or core j 0)
  unfolding store_all AllInside reached word_from
  stores_word [] core j h f = refl
  stores_word (s ∷ later) core j h f =
      let e : length (splice core s.at s.words) ≡ length core = length-splice core s.at s.words
      (omega (arith, f.0.last)) in
      stores_word later (splice core s.at s.words) j (rw e h) f.1
      ∙ ap (cond (reached later j) (word_from later j)) (store_word core s j (omega (arith, f.0.last)))
      ∙ then_word (reached later j) (reaches s j) (word_from later j) (get_or s.words (j - s.at) 0) (get_or core j 0)

-- a word that no store reaches is zero
not-reached : (r q : Bool) (u v : ℕ) → cond (r || q) (cond r u (cond q v 0)) 0 ≡ cond r u (cond q v 0)
not-reached true q u v = refl
not-reached false true u v = refl
not-reached false false u v = refl

from_zero : (stores : List Store) (j : ℕ) → cond (reached stores j) (word_from stores j) 0 ≡ word_from stores j
unfolding reached word_from
from_zero [] j = refl
from_zero (s ∷ later) j = not-reached (reached later j) (reaches s j) (word_from later j) (get_or s.words (j - s.at) 0)

-- an area that was zero
pub stores_image : (area : Area) (stores : List Store) (core : List ℕ) → area.at.0 + area.size ≤ length core
    → AllInside area stores
    → ((k : ℕ) → k < area.size → get_or core (area.at.0 + k) 0 ≡ 0)
    → range (store_all core stores) area.at.0 area.size ≡ tab (λ k. word_from stores (area.at.0 + k)) area.size
stores_image area stores core h f z =
    let e : length (store_all core stores) ≡ length core = store_length area stores core h f in
    let r : length (range (store_all core stores) area.at.0 area.size) ≡ area.size =
    length-range (store_all core stores) area.at.0 area.size (omega arith) in
    ext_get_or 0 _ _ (r ∙ sym (length-tab (λ k. word_from stores (area.at.0 + k)) area.size))
    (λ i g. let k : i < area.size = omega arith in
    get_d_range (store_all core stores) area.at.0 area.size i k
    ∙ stores_word area stores core (area.at.0 + i) h f
    ∙ ap (cond (reached stores (area.at.0 + i)) (word_from stores (area.at.0 + i))) (z i k)
    ∙ from_zero stores (area.at.0 + i)
    ∙ sym (get_d_tab (λ k. word_from stores (area.at.0 + k)) area.size i 0 k))
