-- Runs of consecutive words, each an address and a count. An empty run shares no word with anything, and may start at the end
-- of what holds it (01, the sentence before "Blocks and the label").
use Rattle.std.specs.Prelude.{ℕ, ◌+◌, ◌≤◌, ◌<◌, ◌≡◌, Bool, true, ◌&&◌, ◌||◌, eqb, leb}

-- the run of n words from a lies inside the run of m words from b
unfoldable pub within : ℕ → ℕ → ℕ → ℕ → Bool
within a n b m = leb b a && leb (a + n) (b + m)

-- the run of n words from a and the run of m words from b share no word
unfoldable pub apart : ℕ → ℕ → ℕ → ℕ → Bool
apart a n b m = eqb n 0 || (eqb m 0 || (leb (a + n) b || leb (b + m) a))

-- the same, said of each address
abbrev pub Apart : ℕ → ℕ → ℕ → ℕ → Type 0
Apart a n b m = (i : ℕ) → a ≤ i → i < a + n → b ≤ i → i < b + m → ⊥

-- a test that says a fact, both ways: code uses the test, theorems use the fact
pub record Says (b : Bool) (P : Type 0) : Type 0 where
  pub fact : b ≡ true → P
  pub test : P → b ≡ true
