-- What C gets back: the outcome of a call, its answer as one number.
use Rattle.std.specs.Prelude.{ℕ, ◌≡◌, List, Result, Ok, Err}
use Rattle.word.specs.Fault.{Verdict}
use Rattle.word.specs.declared.Fault.{Fault}
use Rattle.label.specs.declared.Label.{Label}
use Rattle.calls.specs.Answer.{packed, file_packed}
use Rattle.calls.specs.Outcome.{Outcome}
use Rattle.calls.specs.declared.files.FileAnswer.{FileAnswer}
use Rattle.calls.specs.declared.files.FileAnswer.TheVariants.{Refused, Assigned, Needs, Resealed}
use Rattle.front.specs.Front.{needs_value}
use Rattle.book.specs.Assign.{assign_of}
use Rattle.old_seal.specs.Reseal.{old_verdict, resealed}

pub record Returned (o : Outcome) (r : ℕ) (desk core : List ℕ) : Type 0 where
  pub number : r ≡ packed o.answer
  pub desk_left : desk ≡ o.desk
  pub core-left : core ≡ o.core

-- of reseal: 11, 12 or *resealed*, and the block afterwards
abbrev pub reseal_answer : Verdict → FileAnswer
reseal_answer (Ok t) = Resealed
reseal_answer (Err f) = Refused f

pub record ResealReturned (index : ℕ) (block : List ℕ) (r : ℕ) (after : List ℕ) : Type 0 where
  pub number : r ≡ file_packed (reseal_answer (old_verdict index block))
  pub block-left : after ≡ resealed index block

-- of needs: 11, 12, 14 or 15, or *needs* with what the label needs
abbrev pub needs_answer : Result Label Fault → FileAnswer
needs_answer (Ok l) = Needs (needs_value l)
needs_answer (Err f) = Refused f

-- of assign: a refusal or *assigned*, and the two lists afterwards
abbrev pub assign_answer : Verdict → FileAnswer
assign_answer (Ok t) = Assigned
assign_answer (Err f) = Refused f

pub record AssignReturned (book blocks io tables : List ℕ) (r : ℕ) (io' tables' : List ℕ) : Type 0 where
  pub number : r ≡ file_packed (assign_answer (assign_of book blocks io tables).answer)
  pub io-left : io' ≡ (assign_of book blocks io tables).io
  pub tables-left : tables' ≡ (assign_of book blocks io tables).tables
