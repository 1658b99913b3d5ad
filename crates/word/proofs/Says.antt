-- Tests that say facts, put together as the tests are.
use mathlib.Core.Path.{◌≡◌, sym, ◌∙◌}
use mathlib.Core.Bool.{Bool, true, ◌&&◌, true≢false}
use Prim.Native.Nat.{ℕ, ◌+◌, ◌≤◌, ◌<◌}
use native.Mathlib.Omega.{arith}
use mathlib.Core.List.{List}
use lib.ListN.{length, get_or}
use lib.Dec.{leb, ltb, eqb}
use borrow.Author.Tests.{ltb-true, leb-true, eqb-true, lt-ltb, le-leb, eq-eqb, ne_eqb, lt-leb}
use Rattle.word.specs.Lists.{every}
use Rattle.word.specs.Runs.{within, apart, Apart, Says}
use Rattle.word.proofs.Cases.{by-eq, by-lt, and_both, and_left, and_right}
use Rattle.word.proofs.Every.{every-place, every_by}

pub says_eq : (m n : ℕ) → Says (eqb m n) (m ≡ n)
says_eq m n = record { fact = eqb-true m n; test = eq-eqb m n }

pub says_lt : (m n : ℕ) → Says (ltb m n) (m < n)
says_lt m n = record { fact = ltb-true m n; test = lt-ltb m n }

pub says_le : (m n : ℕ) → Says (leb m n) (m ≤ n)
says_le m n = record { fact = leb-true m n; test = le-leb m n }

pub says_and : {a b : Bool} {P Q : Type 0} → Says a P → Says b Q → Says (a && b) (P × Q)
says_and {a} {b} s t = record {
  fact = λ h. (s.fact (and_left a b h), t.fact (and_right a b h));
  test = λ h. and_both a b (s.test h.0) (t.test h.1);
}

-- a test that says a fact in another wording
pub says_as : {b : Bool} {P Q : Type 0} → Says b P → (P → Q) → (Q → P) → Says b Q
says_as s f g = record { fact = λ h. f (s.fact h); test = λ q. s.test (g q) }

-- a test of every element says the fact of each place
module _ (f : ℕ → Bool) where
  pub every-at : (l : List ℕ) (i : ℕ) → i < length l → every f l ≡ true → f (get_or l i 0) ≡ true
  every-at = every-place 0 f

  pub says_every : (l : List ℕ) {P : ℕ → Type 0} → ((x : ℕ) → Says (f x) (P x))
      → Says (every f l) ((i : ℕ) → i < length l → P (get_or l i 0))
  says_every l s = record {
    fact = λ h i k. (s (get_or l i 0)).fact (every-at l i k h);
    test = λ g. every_by 0 f l (λ i k. (s (get_or l i 0)).test (g i k));
  }

-- runs
pub says_within : (a n b m : ℕ) → Says (within a n b m) ((b ≤ a) × (a + n ≤ b + m))
unfolding within
says_within a n b m = says_and (says_le b a) (says_le (a + n) (b + m))

apart-each : (a n b m : ℕ) → apart a n b m ≡ true → Apart a n b m
unfolding apart
apart-each a n b m q i c d e f =
    true≢false (sym q ∙ rw
    (ne_eqb n 0 (λ z. omega arith), ne_eqb m 0 (λ z. omega arith), lt-leb (a + n) b (omega arith), lt-leb (b + m) a (omega arith)))

each-apart : (a n b m : ℕ) → Apart a n b m → apart a n b m ≡ true
unfolding apart
each-apart a n b m w =
    by-eq n 0 (λ z. rw (eq-eqb n 0 z))
    (λ z. by-eq m 0 (λ y. rw (ne_eqb n 0 z, eq-eqb m 0 y))
    (λ y. by-lt b (a + n)
    (λ c. by-lt a (b + m)
    (λ d. by-lt a b
    (λ e. absurd (w b (omega arith) (omega arith) (omega arith) (omega arith)))
    (λ e. absurd (w a (omega arith) (omega arith) (omega arith) (omega arith))))
    (λ d. rw (ne_eqb n 0 z, ne_eqb m 0 y, lt-leb (a + n) b c, le-leb (b + m) a d)))
    (λ c. rw (ne_eqb n 0 z, ne_eqb m 0 y, le-leb (a + n) b c))))

pub says_apart : (a n b m : ℕ) → Says (apart a n b m) (Apart a n b m)
says_apart a n b m = record { fact = apart-each a n b m; test = each-apart a n b m }
