-- From a book and the front of a file to open's two lists (#101). "Refusals: 24 bad record, part record or lent lists not just as
-- long as the file's counts need, 25 tag not in the file, 26 tag given twice in one kind, 27 tag of the file not given, in that
-- order after the file's 11 to 15 ..; none writes the lists." Each is asked of the whole book before the next.
use Rattle.std.specs.Prelude.{ℕ, ◌*◌, ◌/◌, ◌%◌, ◌≡◌, Bool, cond, not, ◌&&◌, List, length, get_or, eqb, ltb, Result, Ok, Err}
use Rattle.word.specs.Lists.{every, every_two, first_not, tab}
use Rattle.word.specs.Fault.{fault, unless, Verdict, pass}
use Rattle.word.specs.declared.Fault.{Fault}
use Rattle.label.specs.Label.{io_count}
use Rattle.label.specs.declared.Label.{Label}
use Rattle.front.specs.Front.{front_of}
use Rattle.book.specs.Book.{is_book, assignments_of}
use Rattle.book.specs.Tags.{FileTags, file_tags, of_kind}
use Rattle.book.specs.declared.Kind.{Kind}
use Rattle.book.specs.declared.Kind.TheVariants.{Address, Length, Peripheral}
use Rattle.book.specs.declared.Assignment.{Assignment}

-- the kinds told apart
abbrev pub rank : Kind → ℕ
rank Peripheral = 0
rank Address = 1
rank Length = 2

-- a record is for the tag w of kind k
unfoldable pub is_for : Kind → ℕ → Assignment → Bool
is_for k w r = eqb (rank r.kind) (rank k) && eqb r.tag w

-- ---- 24: "lent lists not just as long as the file's counts need": an I/O number for each reference, two numbers for each table
abbrev pub lists_fit : Label → List ℕ → List ℕ → Bool
lists_fit l io tables = eqb (length io) (io_count l) && eqb (length tables) (2 * l.tables)

-- ---- 25: an entry has the record's tag at the word that its kind speaks of. The first that has a tag; where none does, how many
-- there are
unfoldable pub place_of : ℕ → List ℕ → ℕ
place_of w ws = first_not (λ j. not (eqb (get_or ws j 0) w)) (length ws)

unfoldable pub in_file : FileTags → Assignment → Bool
in_file ts r = ltb (place_of r.tag (of_kind r.kind ts)) (length (of_kind r.kind ts))

-- ---- 26: two records are for different tags, or of different kinds; the number does not matter
unfoldable pub apart_from : Assignment → Assignment → Bool
apart_from r s = not (is_for r.kind r.tag s)

-- ---- 27: the first record that is for a tag; where none is, how many there are. What would stand past the last record is not
-- asked
abbrev pub no_assignment : Assignment
no_assignment = record { kind = Peripheral; tag = 0; number = 0 }

unfoldable pub record_for : List Assignment → Kind → ℕ → ℕ
record_for rs k w = first_not (λ i. not (is_for k w (get_or rs i no_assignment))) (length rs)

unfoldable pub is_given : List Assignment → Kind → ℕ → Bool
is_given rs k w = ltb (record_for rs k w) (length rs)

unfoldable pub all_given : List Assignment → FileTags → Bool
all_given rs ts =
    every (is_given rs Peripheral) ts.peripherals
    && (every (is_given rs Address) ts.addresses
    && every (is_given rs Length) ts.lengths)

-- ---- the lists: the number of the record that is for an entry's tag
unfoldable pub number_for : List Assignment → Kind → ℕ → ℕ
number_for rs k w = (get_or rs (record_for rs k w) no_assignment).number

abbrev pub entry_number : List Assignment → FileTags → Kind → ℕ → ℕ
entry_number rs ts k j = number_for rs k (get_or (of_kind k ts) j 0)

unfoldable pub io_list : List Assignment → FileTags → List ℕ
io_list rs ts = tab (entry_number rs ts Peripheral) (length ts.peripherals)

-- "address, length, address, length": number i is table i / 2's address where i is even, else its length
abbrev pub kind_in_pair : ℕ → Kind
kind_in_pair i = cond (eqb (i % 2) 0) Address Length

unfoldable pub table_list : List Assignment → FileTags → List ℕ
table_list rs ts = tab (λ i. entry_number rs ts (kind_in_pair i) (i / 2)) (2 * length ts.addresses)

-- ---- what is answered, and what is left in the lists
pub record ListsLeft : Type 0 where
  pub answer : Verdict
  pub io : List ℕ
  pub tables : List ℕ

abbrev pub refused_with : ℕ → List ℕ → List ℕ → ListsLeft
refused_with n io tables = record { answer = Err (fault n); io = io; tables = tables }

-- from refusal 25 on, of a file with these tags
unfoldable pub lists_for : FileTags → List Assignment → List ℕ → List ℕ → ListsLeft
lists_for ts rs io tables =
    unless (every (in_file ts) rs) (refused_with 25 io tables)
    (unless (every_two apart_from rs) (refused_with 26 io tables)
    (unless (all_given rs ts) (refused_with 27 io tables)
    (record { answer = pass; io = io_list rs ts; tables = table_list rs ts })))

-- 24 of a file with this label
unfoldable pub fits : List ℕ → Label → List ℕ → List ℕ → Bool
fits book l io tables = lists_fit l io tables && is_book book

unfoldable pub assign_by : List ℕ → List ℕ → Result Label Fault → List ℕ → List ℕ → ListsLeft
assign_by book blocks (Ok l) io tables =
    unless (fits book l io tables) (refused_with 24 io tables)
    (lists_for (file_tags blocks l) (assignments_of book) io tables)
assign_by book blocks (Err f) io tables = record { answer = Err f; io = io; tables = tables }

-- book and blocks as they are lent, io and tables what the lent lists hold
unfoldable pub assign_of : List ℕ → List ℕ → List ℕ → List ℕ → ListsLeft
assign_of book blocks io tables = assign_by book blocks (front_of blocks) io tables

-- an answer, and the lists afterwards, are these
pub record Leaves (o : ListsLeft) (v : Verdict) (io tables : List ℕ) : Type 0 where
  pub told : v ≡ o.answer
  pub io-left : io ≡ o.io
  pub tables-left : tables ≡ o.tables
