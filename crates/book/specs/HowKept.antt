-- how the code goes, not a rule of 02
-- The tags of a file, and what the records give them, are kept by kind in one list each, in stretches of 128 numbers. A mark is 0
-- where no record yet was for the tag, else the number that it gives, and one.
use Rattle.std.specs.Prelude.{ℕ, zero, suc, ◌+◌, ◌*◌, ◌/◌, ◌%◌, ◌-◌, ◌^◌, ◌<◌, ◌≤◌, ◌≡◌, Bool, true, cond, not, ◌&&◌, List, [], ◌∷◌, length, get_or}
use Rattle.std.specs.Prelude.{replicate, eqb, Option, Some, None, Err}
use Rattle.word.specs.Lists.{every, every_two, tab, range, splice}
use Rattle.word.specs.Fault.{fault, Verdict}
use Rattle.word.specs.declared.Fault.{Fault}
use Rattle.label.specs.Label.{Carried}
use Rattle.label.specs.declared.Label.{Label}
use Rattle.book.specs.Book.{is_kind, kind_of, is_book, assignments_of}
use Rattle.book.specs.Tags.{entries_of, tags_of, FileTags}
use Rattle.book.specs.Assign.{rank, is_for, place_of, in_file, apart_from, no_assignment}
use Rattle.book.specs.declared.Kind.{Kind}
use Rattle.book.specs.declared.Kind.TheVariants.{Address, Length, Peripheral}
use Rattle.book.specs.declared.Assignment.{Assignment}

-- a stretch for each kind
abbrev pub kind_most : ℕ
kind_most = 128

abbrev pub kept_words : ℕ
kept_words = 3 * kind_most

abbrev pub start_of : Kind → ℕ
start_of k = kind_most * rank k

-- what is kept of a kind
unfoldable pub kept_of : List ℕ → Label → Kind → List ℕ
kept_of kept l k = range kept (start_of k) (entries_of l k)

abbrev pub kept_tags : List ℕ → Label → FileTags
kept_tags tags l = record {
  peripherals = kept_of tags l Peripheral;
  addresses = kept_of tags l Address;
  lengths = kept_of tags l Length;
}

-- the kind of a letter, where it is one
abbrev pub kind_read : ℕ → Option Kind
kind_read b = cond (is_kind b) (Some (kind_of b)) None

-- the number that bytes spell to a base, each by what it is over `low`; n stands before them. A tag is spelled so of codes, the
-- number of digits
unfoldable pub spelled : ℕ → ℕ → ℕ → List ℕ → ℕ
spelled base low n [] = n
spelled base low n (b ∷ bs) = spelled base low (n * base + (b - low)) bs

-- eight bytes at most spell a number below 2^64
pub record Spells (base low : ℕ) (bytes : List ℕ) : Type 0 where
  pub small : base ≤ 256
  pub few : length bytes ≤ 8
  pub digits : (k : ℕ) → k < length bytes → low ≤ get_or bytes k 0

-- the tags of a kind in their stretch
unfoldable pub with_tags : List ℕ → Label → Kind → List ℕ → List ℕ
with_tags blocks l k kept = splice kept (start_of k) (tags_of blocks l k)

unfoldable pub with_all_tags : List ℕ → Label → List ℕ → List ℕ
with_all_tags blocks l kept = with_tags blocks l Length (with_tags blocks l Address (with_tags blocks l Peripheral kept))

-- the mark of the tag w of kind k, after i records
unfoldable pub mark_to : List Assignment → Kind → ℕ → ℕ → ℕ
mark_to rs k w zero = 0
mark_to rs k w (suc i) =
    cond (eqb (mark_to rs k w i) 0)
    (cond (is_for k w (get_or rs i no_assignment)) (suc (get_or rs i no_assignment).number) 0)
    (mark_to rs k w i)

unfoldable pub marks_to : List Assignment → Kind → List ℕ → ℕ → List ℕ
marks_to rs k ws i = tab (λ j. mark_to rs k (get_or ws j 0) i) (length ws)

-- marks with the value v at each place of the tag w
unfoldable pub marked : List ℕ → ℕ → ℕ → List ℕ → List ℕ
marked ws w v ms = tab (λ j. cond (eqb (get_or ws j 0) w) v (get_or ms j 0)) (length ms)

abbrev pub is_mark : ℕ → Bool
is_mark m = not (eqb m 0)

-- the numbers that marks stand for; addresses and lengths in turn
unfoldable pub numbers_of : List ℕ → List ℕ
numbers_of ms = tab (λ j. get_or ms j 0 - 1) (length ms)

abbrev pub in_pair : List ℕ → List ℕ → ℕ → ℕ
in_pair xs ys i = cond (eqb (i % 2) 0) (get_or xs (i / 2) 0) (get_or ys (i / 2) 0)

unfoldable pub pairs_of : List ℕ → List ℕ → List ℕ
pairs_of xs ys = tab (λ i. in_pair xs ys i - 1) (2 * length xs)

unfoldable pub all_marked : List ℕ → Label → Bool
all_marked marks l =
    every is_mark (kept_of marks l Peripheral) && (every is_mark (kept_of marks l Address) && every is_mark (kept_of marks l Length))

-- where not every record was taken
unfoldable pub not_taken : FileTags → List Assignment → Verdict
not_taken ts rs = cond (every (in_file ts) rs) (Err (fault 26)) (Err (fault 25))

-- ---- what has been seen to before the records are looked up among the tags, one after another and all of them
pub record LookReady (book : List ℕ) (l : Label) (tags : List ℕ) : Type 0 where
  pub right : is_book book ≡ true
  pub carried : Carried l
  pub long : length tags ≡ kept_words

pub record LookedReady (book : List ℕ) (l : Label) (tags io tables : List ℕ) : Type 0 where
  pub look : LookReady book l tags
  pub io-long : length io ≡ entries_of l Peripheral
  pub tables-long : length tables ≡ 2 * entries_of l Address

-- before they are taken, all and one
pub record TakeReady (book : List ℕ) (l : Label) (tags marks : List ℕ) : Type 0 where
  pub look : LookReady book l tags
  pub none : marks ≡ replicate kept_words 0

pub record MarkReady (l : Label) (tags : List ℕ) (r : Assignment) (marks : List ℕ) : Type 0 where
  pub carried : Carried l
  pub tags_long : length tags ≡ kept_words
  pub marks-long : length marks ≡ kept_words
  pub small : r.number < 2 ^ 32

-- before the lists are written
pub record FillReady (marks : List ℕ) (l : Label) (io tables : List ℕ) : Type 0 where
  pub carried : Carried l
  pub long : length marks ≡ kept_words
  pub all : all_marked marks l ≡ true
  pub io-long : length io ≡ entries_of l Peripheral
  pub tables-long : length tables ≡ 2 * entries_of l Address

pub record PairsReady (xs ys list : List ℕ) : Type 0 where
  pub rows : length ys ≡ length xs
  pub long : length list ≡ 2 * length xs
  pub first : every is_mark xs ≡ true
  pub second : every is_mark ys ≡ true

-- ---- what one record leaves: whether an entry has its tag and it had no mark, and then the marks
pub record Marked (l : Label) (tags : List ℕ) (r : Assignment) (marks : List ℕ) (b : Bool) (after : List ℕ) : Type 0 where
  pub told : b
      ≡ (in_file (kept_tags tags l) r && eqb (get_or (kept_of marks l r.kind) (place_of r.tag (kept_of tags l r.kind)) 0) 0)
  pub left : b ≡ true → after
      ≡ splice marks (start_of r.kind) (marked (kept_of tags l r.kind) r.tag (suc r.number) (kept_of marks l r.kind))

-- the marks of each kind after i records; and what all records leave
pub record Marks (rs : List Assignment) (l : Label) (tags marks : List ℕ) (i : ℕ) : Type 0 where
  pub long : length marks ≡ kept_words
  pub each : (k : Kind) → kept_of marks l k ≡ marks_to rs k (kept_of tags l k) i

pub record Taken (book : List ℕ) (l : Label) (tags : List ℕ) (b : Bool) (after : List ℕ) : Type 0 where
  pub told : b ≡ (every (in_file (kept_tags tags l)) (assignments_of book) && every_two apart_from (assignments_of book))
  pub left : b ≡ true → Marks (assignments_of book) l tags after (length (assignments_of book))

-- the lists afterwards
pub record Filled (marks : List ℕ) (l : Label) (io tables : List ℕ) : Type 0 where
  pub io-left : io ≡ numbers_of (kept_of marks l Peripheral)
  pub tables-left : tables ≡ pairs_of (kept_of marks l Address) (kept_of marks l Length)
