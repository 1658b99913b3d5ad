-- What a call leaves: its answer, the desk and, where it is lent one, the core. Two outcomes that meet a contract are equal
-- (`one_outcome`, proofs/Outcome.antt).
use Rattle.std.specs.Prelude.{ℕ, ◌≡◌, List}
use Rattle.word.specs.Fault.{fault}
use Rattle.calls.specs.declared.Answer.{Answer}
use Rattle.calls.specs.declared.Answer.TheVariants.{Refused}

pub record Outcome : Type 0 where
  pub answer : Answer
  pub desk : List ℕ
  pub core : List ℕ

pub record Meets (o : Outcome) (answer : Answer) (desk core : List ℕ) : Type 0 where
  pub told : answer ≡ o.answer
  pub desk_left : desk ≡ o.desk
  pub core-left : core ≡ o.core

-- "Refusals 1 to 12 change nothing."
abbrev pub refused : ℕ → List ℕ → List ℕ → Outcome
refused n d core = record { answer = Refused (fault n); desk = d; core = core }
