-- The text that the programs write, the same as they read: a block's words, each as a line of 12 octal digits and a newline.
use Rattle.std.specs.Prelude.{ℕ, ◌+◌, ◌*◌, ◌-◌, List, [], ◌∷◌, ◌++◌}
use Rattle.word.specs.Word.{part}
use Rattle.word.specs.Lists.{tab}
use Rattle.octal.specs.Lines.{digit_count, newline}

-- the octal digit of w that has j digits before it, in ASCII: bits 35-33 for the first, bits 2-0 for the last
abbrev pub octal_digit : ℕ → ℕ → ℕ
octal_digit w j = 48 + part (33 - 3 * j) 3 w

-- the digits of a word, the leftmost first; of a number over 36 bits, those of its low 36 bits
unfoldable pub octal_digits : ℕ → List ℕ
octal_digits w = tab (octal_digit w) digit_count

-- the line of a word
unfoldable pub line_of : ℕ → List ℕ
line_of w = octal_digits w ++ (newline ∷ [])

-- the text of a block: the lines of its words, one after another
unfoldable pub text_of : List ℕ → List ℕ
text_of [] = []
text_of (w ∷ ws) = line_of w ++ text_of ws
