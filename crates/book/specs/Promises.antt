-- What is promised of assign, as statements over the definitions; proofs/Promises.antt proves each.
use Rattle.std.specs.Prelude.{ℕ, ◌/◌, ◌≡◌, true, List, ◌↔◌, length, take, Ok, Err}
use Rattle.word.specs.Lists.{every, every_two}
use Rattle.word.specs.declared.Fault.{Fault}
use Rattle.word.specs.Fault.{pass}
use Rattle.label.specs.Label.{channel_count}
use Rattle.label.specs.declared.Label.{Label}
use Rattle.modification.specs.Assignments.{is_channel, assignments_fit}
use Rattle.front.specs.Front.{front_of}
use Rattle.book.specs.Book.{assignments_of}
use Rattle.book.specs.Tags.{file_tags}
use Rattle.book.specs.Assign.{fits, in_file, apart_from, assign_of}
use Rattle.book.specs.Allows.{Allows}
use Rattle.book.specs.declared.Assignment.{Assignment}

-- "The lists are the only ones the book allows": any two that it allows for a file are equal
abbrev pub OnlyLists : Type 0
OnlyLists = (rs : List Assignment) (blocks : List ℕ) (l : Label) (io tables io' tables' : List ℕ)
    → Allows rs blocks l io tables → Allows rs blocks l io' tables' → (io ≡ io') × (tables ≡ tables')

-- the file's 11 to 15 and the book's 24 to 26 are not due
pub record NoneDue (book blocks : List ℕ) (l : Label) (io tables : List ℕ) : Type 0 where
  pub front : front_of blocks ≡ Ok l
  pub fit : fits book l io tables ≡ true
  pub in_file_lem : every (in_file (file_tags blocks l)) (assignments_of book) ≡ true
  pub once : every_two apart_from (assignments_of book) ≡ true

-- some lists are allowed
pub record Allowed (book blocks : List ℕ) (l : Label) : Type 0 where
  pub io : List ℕ
  pub tables : List ℕ
  pub allows : Allows (assignments_of book) blocks l io tables

pub record Assignable (book blocks io tables : List ℕ) : Type 0 where
  pub label : Label
  pub none-due : NoneDue book blocks label io tables
  pub some_lists : Allowed book blocks label

-- the answer is *assigned* exactly when 11 to 15 and 24 to 26 are not due and some lists are allowed
abbrev pub AssignedExactly : Type 0
AssignedExactly =
    (book blocks io tables : List ℕ) → ((assign_of book blocks io tables).answer ≡ pass) ↔ Assignable book blocks io tables

-- and then the lists that are left are allowed
abbrev pub AssignedAllowed : Type 0
AssignedAllowed = (book blocks io tables : List ℕ) (l : Label) → front_of blocks ≡ Ok l
    → (assign_of book blocks io tables).answer ≡ pass
    → Allows (assignments_of book) blocks l (assign_of book blocks io tables).io (assign_of book blocks io tables).tables

-- "none writes the lists"
abbrev pub RefusedUntouched : Type 0
RefusedUntouched = (book blocks io tables : List ℕ) (f : Fault) → (assign_of book blocks io tables).answer ≡ Err f
    → ((assign_of book blocks io tables).io ≡ io) × ((assign_of book blocks io tables).tables ≡ tables)

-- "into open's two lists": the label finds its counts in lists that are allowed, so that of its 16 only the numbers of the jump
-- switches and channels are left to ask
abbrev pub CountsFit : Type 0
CountsFit = (rs : List Assignment) (blocks : List ℕ) (l : Label) (io tables : List ℕ) → Allows rs blocks l io tables
    → assignments_fit l io (length tables / 2) ≡ every is_channel (take (channel_count l) io)
