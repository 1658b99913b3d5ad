-- Every refusal of assign is the front's, or one of 24 to 27 without a place.
use Prim.Native.Nat.{ℕ, ◌≤◌}
use mathlib.Core.Path.{◌≡◌, refl}
use mathlib.Core.List.{List}
use native.Mathlib.Omega.{arith}
use Rattle.word.specs.Lists.{every, every_two}
use Rattle.word.specs.Fault.{fault, Verdict, pass}
use Rattle.word.specs.declared.Fault.{Fault}
use Rattle.word.proofs.Cases.{both}
use Rattle.std.specs.Prelude.{Result, Ok, Err}
use Rattle.label.specs.declared.Label.{Label}
use Rattle.front.specs.Front.{front_of}
use Rattle.front.proofs.Faults.{FrontFault, front_faults}
use Rattle.book.specs.Book.{assignments_of}
use Rattle.book.specs.Tags.{file_tags}
use Rattle.book.specs.Assign.{ListsLeft, in_file, apart_from, all_given, fits, lists_for, assign_by, assign_of}

-- a property of every answer: of *assigned*, of the front's faults, and of 24 to 27
module _ (P : Verdict → Type 0) (pass : P pass) (front : (f : Fault) → FrontFault f → P (Err f))
    (book-own : (n : ℕ) → 24 ≤ n → n ≤ 27 → P (Err (fault n))) where
  abbrev Of : ListsLeft → Type 0
  Of o = P o.answer

  by_label : (book blocks : List ℕ) (r : Result Label Fault) (io tables : List ℕ) → front_of blocks ≡ r
      → Of (assign_by book blocks r io tables)
  unfolding assign_by lists_for
  by_label book blocks (Ok l) io tables e =
      both Of (fits book l io tables)
      (both Of (every (in_file (file_tags blocks l)) (assignments_of book))
      (both Of (every_two apart_from (assignments_of book))
      (both Of (all_given (assignments_of book) (file_tags blocks l)) pass (book-own 27 (omega arith) (omega arith)))
      (book-own 26 (omega arith) (omega arith)))
      (book-own 25 (omega arith) (omega arith)))
      (book-own 24 (omega arith) (omega arith))
  by_label book blocks (Err f) io tables e = front f (front_faults blocks f e)

  pub every_answer : (book blocks io tables : List ℕ) → P (assign_of book blocks io tables).answer
  unfolding assign_of
  every_answer book blocks io tables = by_label book blocks (front_of blocks) io tables refl
