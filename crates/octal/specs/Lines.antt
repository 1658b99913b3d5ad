-- The text that the programs read: "12 octal digits a line", 256 lines to a block. A line is 13 bytes: its digits and a newline.
use Rattle.std.specs.Prelude.{ℕ, ◌+◌, ◌*◌, ◌-◌, Bool, cond, ◌&&◌, ◌||◌, List, [], ◌∷◌, get_or, set, eqb, leb, Option, Some, None, is_some, unwrap_or}
use Rattle.word.specs.Lists.{every, tab, range}

-- a line's digits, its bytes with the newline, the lines of a block and the bytes of its text
abbrev pub digit_count : ℕ
digit_count = 12

abbrev pub line_bytes : ℕ
line_bytes = 13

abbrev pub line_count : ℕ
line_count = 256

abbrev pub text_bytes : ℕ
text_bytes = line_count * line_bytes

-- in ASCII the digits 0 to 7 are 48 to 55
abbrev pub is_octal : ℕ → Bool
is_octal d = leb 48 d && leb d 55

abbrev pub newline : ℕ
newline = 10

-- the number that octal digits spell, the first leftmost; w stands before them
unfoldable pub octal : ℕ → List ℕ → ℕ
octal w [] = w
octal w (d ∷ ds) = octal (w * 8 + (d - 48)) ds

-- the word of the line whose first byte is at place a; none, if it is a bad line
unfoldable pub line_at : List ℕ → ℕ → Option ℕ
line_at text a =
    cond (every is_octal (range text a digit_count) && eqb (get_or text (a + digit_count) 0) newline)
    (Some (octal 0 (range text a digit_count)))
    None

abbrev pub is_good : Option ℕ → Bool
is_good l = is_some l

-- a bad line has no word: 0 stands for it, and the block that it is in is not fed
abbrev pub word_of : Option ℕ → ℕ
word_of l = unwrap_or l 0

-- line i of a text, and its word
abbrev pub line : List ℕ → ℕ → Option ℕ
line text i = line_at text (i * line_bytes)

abbrev pub line_word : List ℕ → ℕ → ℕ
line_word text i = word_of (line text i)

-- "A bad line .. prints `input bad`": all 256 lines are good
unfoldable pub is_block : List ℕ → Bool
is_block text = every is_good (tab (line text) line_count)

-- the block that a text spells
unfoldable pub block_of : List ℕ → List ℕ
block_of text = tab (line_word text) line_count

-- how many bytes are a block's text: 3,328, or one less, where the input ends without the last newline; any other number of bytes
-- is a part block
unfoldable pub is_whole : ℕ → Bool
is_whole n = eqb n text_bytes || eqb n (text_bytes - 1)

-- the text of which n bytes came, with its last newline
unfoldable pub ended : List ℕ → ℕ → List ℕ
ended text n = cond (eqb n (text_bytes - 1)) (set text (text_bytes - 1) newline) text
