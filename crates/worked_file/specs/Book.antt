-- The worked file assigned by a book (#101): its facility book, record by record; books that are refused, one or more for each
-- number from 24 on; and fronts that are, with their places.
use Rattle.std.specs.Prelude.{ℕ, ◌+◌, ◌/◌, ◌%◌, List, [], ◌∷◌, ◌++◌, take, drop, replicate, set}
use Rattle.word.specs.Fault.{fault, further}
use Rattle.word.specs.declared.Fault.{Fault}
use Rattle.block.specs.Fieldata.{characters}
use Rattle.block.specs.Checksum.{checksum, others}
use Rattle.hand_deck.specs.Blocks.{with_words}
use Rattle.book.specs.Book.{letter_of, newline}
use Rattle.book.specs.declared.Kind.{Kind}
use Rattle.book.specs.declared.Kind.TheVariants.{Address, Length, Peripheral}
use Rattle.worked_file.specs.Blocks.{named, worked_label, worked_entries}

-- ---- a record: the letter of its kind, the six characters of a tag, six digits, a newline
abbrev digit : ℕ → ℕ
digit n = 48 + n % 10

abbrev digits : ℕ → List ℕ
digits n = digit (n / 100000) ∷ digit (n / 10000) ∷ digit (n / 1000) ∷ digit (n / 100) ∷ digit (n / 10) ∷ digit n ∷ []

abbrev pub line : Kind → ℕ → ℕ → List ℕ
line k tag n = letter_of k ∷ (characters 6 tag ++ (digits n ++ (newline ∷ [])))

-- ---- the worked file's book: the records stand in any order
abbrev peripherals : List ℕ
peripherals =
    -- TAPEB is unit 65,535, JUMP switch 5, CHAN channel 12, TAPEA unit 34
    line Peripheral 0o310625120705 65535
    ++ (line Peripheral 0o173222250505 5
    ++ (line Peripheral 0o101506230505 12
    ++ line Peripheral 0o310625120605 34))

abbrev tables : List ℕ
tables =
    -- LIST at 1056, its length LLIST 8; NONE at 1152, LNONE 0; POOL at 1072
    line Address 0o211630310505 1056
    ++ (line Length 0o212116303105 8
    ++ (line Length 0o212324231205 0
    ++ (line Address 0o232423120505 1152
    ++ line Address 0o252424210505 1072)))

-- LPOOL is 80
abbrev pub last_line : List ℕ
last_line = line Length 0o212524242105 80

unfoldable pub worked_book : List ℕ
worked_book = peripherals ++ (tables ++ last_line)

-- its front: the label and the modification block
unfoldable pub worked_front : List ℕ
worked_front = worked_label ++ worked_entries

-- ---- books that are refused
pub record WrongBook : Type 0 where
  pub number : ℕ
  pub book : List ℕ

-- the worked book with byte b in place i
abbrev byte_at : ℕ → ℕ → List ℕ
byte_at i b = set worked_book i b

abbrev pub wrong_books : List WrongBook
wrong_books =
    -- 24, "part record": the last newline is missing; a byte is over
    record { number = 24; book = take 139 worked_book }
    ∷ record { number = 24; book = worked_book ++ (newline ∷ []) }
    -- 24, "bad record": a small letter, a code of 64, the characters before and behind the digits, no newline
    ∷ record { number = 24; book = byte_at 0 112 }
    ∷ record { number = 24; book = byte_at 6 64 }
    ∷ record { number = 24; book = byte_at 7 47 }
    ∷ record { number = 24; book = byte_at 138 58 }
    ∷ record { number = 24; book = byte_at 139 32 }
    -- 25, "tag not in the file": LIST with a code of 63 for its last; LLIST among the addresses; CHAN among the lengths
    ∷ record { number = 25; book = worked_book ++ line Address 0o211630310577 1056 }
    ∷ record { number = 25; book = worked_book ++ line Address 0o212116303105 8 }
    ∷ record { number = 25; book = worked_book ++ line Length 0o101506230505 12 }
    -- 26, "tag given twice in one kind": with another number, and with the same
    ∷ record { number = 26; book = worked_book ++ line Length 0o212524242105 81 }
    ∷ record { number = 26; book = worked_book ++ last_line }
    -- 27, "tag of the file not given": LPOOL; none at all
    ∷ record { number = 27; book = take 126 worked_book }
    ∷ record { number = 27; book = [] }
    -- "in that order": what is due later in the book, and sooner among the numbers
    ∷ record { number = 24; book = line Address 0o212116303105 8 ++ byte_at 139 32 }
    ∷ record { number = 25; book = last_line ++ (worked_book ++ line Address 0o212116303105 8) }
    ∷ record { number = 26; book = take 126 worked_book ++ drop 112 (take 126 worked_book) }
    ∷ []

-- ---- fronts that are refused
pub record WrongFront : Type 0 where
  pub fault : Fault
  pub blocks : List ℕ

-- a block with its checksum at place p
abbrev sealed_at : ℕ → List ℕ → List ℕ
sealed_at p block = set block p (checksum (others p block))

abbrev pub wrong_fronts : List WrongFront
wrong_fronts =
    -- 13, no block at all; the modification block is missing, at the word that it would begin with
    record { fault = fault 13; blocks = [] }
    ∷ record { fault = further 256 (fault 13); blocks = worked_label }
    -- 11, a part of a block, where one is due and where none is
    ∷ record { fault = fault 11; blocks = take 511 worked_front }
    ∷ record { fault = fault 11; blocks = worked_front ++ (0 ∷ []) }
    -- 12, the checksum of the modification block
    ∷ record { fault = fault 12; blocks = set worked_front 300 1 }
    -- 13, a block that is no modification block; one that is over; and 12 of one that is over
    ∷ record { fault = further 256 (fault 13); blocks = worked_label ++ sealed_at 255 (with_words (named 0 1 ∷ []) worked_entries) }
    ∷ record { fault = further 512 (fault 13); blocks = worked_front ++ worked_entries }
    ∷ record { fault = fault 12; blocks = worked_front ++ worked_label }
    -- 14 and 15, at their words
    ∷ record { fault = further 2 (fault 14); blocks = sealed_at 254 (with_words (named 2 0 ∷ []) worked_label) ++ worked_entries }
    ∷ record { fault = further 3 (fault 15); blocks = sealed_at 254 (with_words (named 3 0o000004000006 ∷ []) worked_label) }
    ∷ []

-- ---- "One length tag may serve several tables": LPOOL's place has LLIST's tag once more, and the book no LPOOL
unfoldable pub shared_front : List ℕ
shared_front = worked_label ++ sealed_at 255 (with_words (named 16 0o212116303105 ∷ []) worked_entries)

abbrev pub shared_tables : List ℕ
shared_tables = 0o2040 ∷ 0o10 ∷ 0o2200 ∷ 0 ∷ 0o2060 ∷ 0o10 ∷ []

-- ---- the lists as they are lent: any numbers
abbrev pub lent_ios : List ℕ
lent_ios = replicate 4 0o777

abbrev pub lent_tables : List ℕ
lent_tables = replicate 6 0o777
