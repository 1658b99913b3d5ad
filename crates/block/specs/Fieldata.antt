-- Fieldata, the six-bit character code of the 1107, as far as 01 uses it: A to Z are octal 06 to 37, 0 to 9 are 60 to 71,
-- the asterisk is 50, the hyphen 41, the space 05. Six characters make a word, the first one leftmost.
use Rattle.std.specs.Prelude.{ℕ, zero, suc, ◌+◌, ◌-◌, ◌*◌, Bool, ◌&&◌, List, [], ◌∷◌, nat_le}
use Rattle.word.specs.Word.{part}

abbrev pub space : ℕ
space = 0o05

abbrev pub hyphen : ℕ
hyphen = 0o41

abbrev pub asterisk : ℕ
asterisk = 0o50

-- the n-th letter of the alphabet, A being the first
abbrev pub letter : ℕ → ℕ
letter n = 0o06 + (n - 1)

-- the digit n
abbrev pub digit : ℕ → ℕ
digit n = 0o60 + n

abbrev pub is_letter : ℕ → Bool
is_letter c = nat_le (letter 1) c && nat_le c (letter 26)

abbrev pub is_digit : ℕ → Bool
is_digit c = nat_le (digit 0) c && nat_le c (digit 9)

-- characters put together, the first one leftmost
unfoldable pub spelt : ℕ → List ℕ → ℕ
spelt w [] = w
spelt w (c ∷ cs) = spelt (w * 64 + c) cs

-- the n lowest characters of a word, the leftmost first
unfoldable pub characters : ℕ → ℕ → List ℕ
characters zero w = []
characters (suc n) w = part (6 * n) 6 w ∷ characters n w
