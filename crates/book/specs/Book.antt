-- A facility book (#101) "has records of 14 bytes and no header: a kind letter (A address, L length, P peripheral), six bytes each
-- a Fieldata code, six ASCII digits, a newline". A code may be that of a newline too, so a book is cut by its length alone.
use Rattle.std.specs.Prelude.{ℕ, ◌+◌, ◌*◌, ◌-◌, ◌/◌, ◌%◌, Bool, cond, ◌&&◌, ◌||◌, List, [], ◌∷◌, length, get_or, eqb, leb}
use Rattle.word.specs.Lists.{every, tab, range}
use Rattle.block.specs.Fieldata.{spelt}
use Rattle.book.specs.declared.Kind.{Kind}
use Rattle.book.specs.declared.Kind.TheVariants.{Address, Length, Peripheral}
use Rattle.book.specs.declared.Assignment.{Assignment}

abbrev pub record_bytes : ℕ
record_bytes = 14

-- "a kind letter (A address, L length, P peripheral)", in ASCII
abbrev pub letter_of : Kind → ℕ
letter_of Address = 65
letter_of Length = 76
letter_of Peripheral = 80

unfoldable pub is_kind : ℕ → Bool
is_kind b = eqb b (letter_of Address) || (eqb b (letter_of Length) || eqb b (letter_of Peripheral))

-- the kind of a letter that is one
abbrev pub kind_of : ℕ → Kind
kind_of b = cond (eqb b (letter_of Address)) Address (cond (eqb b (letter_of Length)) Length Peripheral)

-- "six bytes each a Fieldata code": 0 to 63; "six ASCII digits": 0 to 9 are 48 to 57; "a newline" is 10
abbrev pub between : ℕ → ℕ → ℕ → Bool
between low high b = leb low b && leb b high

abbrev pub is_code : ℕ → Bool
is_code b = between 0 63 b

abbrev pub is_digit : ℕ → Bool
is_digit b = between 48 57 b

abbrev pub newline : ℕ
newline = 10

-- the bytes of record i
unfoldable pub record_at : List ℕ → ℕ → List ℕ
record_at book i = range book (i * record_bytes) record_bytes

abbrev pub codes_in : List ℕ → List ℕ
codes_in bytes = range bytes 1 6

abbrev pub digits_in : List ℕ → List ℕ
digits_in bytes = range bytes 7 6

-- these 14 bytes are a record
unfoldable pub is_record : List ℕ → Bool
is_record bytes =
    is_kind (get_or bytes 0 0)
    && (every is_code (codes_in bytes)
    && (every is_digit (digits_in bytes)
    && eqb (get_or bytes 13 0) newline))

-- the number that decimal digits spell, the first leftmost; n stands before them
unfoldable pub decimal : ℕ → List ℕ → ℕ
decimal n [] = n
decimal n (d ∷ ds) = decimal (n * 10 + (d - 48)) ds

-- what a record says: the tag is a word, "first code in bits 35-30", and is given a number
unfoldable pub assignment_of : List ℕ → Assignment
assignment_of bytes = record {
  kind = kind_of (get_or bytes 0 0);
  tag = spelt 0 (codes_in bytes);
  number = decimal 0 (digits_in bytes);
}

-- how many records a book has, and what they say, in their order
abbrev pub record_count : List ℕ → ℕ
record_count book = length book / record_bytes

unfoldable pub assignments_of : List ℕ → List Assignment
assignments_of book = tab (λ i. assignment_of (record_at book i)) (record_count book)

-- 24: "bad record, part record"
unfoldable pub all_records : List ℕ → Bool
all_records book = every is_record (tab (record_at book) (record_count book))

unfoldable pub is_book : List ℕ → Bool
is_book book = eqb (length book % record_bytes) 0 && all_records book
