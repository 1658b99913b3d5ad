-- A fault: the number that 01's table of refusals gives it, and its place (02, #105). A reader tells the place as far as it knows it;
-- its caller adds its own part by `further`, and so up to the block. And a test with what is given where it fails.
use Rattle.std.specs.Prelude.{ℕ, ◌+◌, ◌*◌, Bool, cond, eqb, Result, Ok, Err, Option, Some, None}
use Rattle.word.specs.declared.Fault.{Fault}
use Rattle.word.specs.declared.Half.{Half}
use Rattle.word.specs.declared.Half.TheVariants.{Left, Right}

-- a fault of the first word that its reader was given, and of no half of it
abbrev pub fault : ℕ → Fault
fault n = record { number = n; word = 0; half = None; bit = 0 }

-- refused with n, or passed where n is 0: the outcome of a test that tells its refusals by their numbers
abbrev pub numbered : ℕ → Result (Unit {0}) Fault
numbered n = cond (eqb n 0) (Ok tt) (Err (fault n))

-- in the half h, before whose indicator stand b bits of the group's
abbrev pub in_half : Half → ℕ → Fault → Fault
in_half h b f = record { number = f.number; word = f.word; half = Some h; bit = b }

-- "the group, section and block steps pass this up, each adding its word number": what the reader was given starts k words on
abbrev pub further : ℕ → Fault → Fault
further k f = record { number = f.number; word = k + f.word; half = f.half; bit = f.bit }

-- "1 for a left half, 2 for a right half, 0 otherwise"
abbrev pub half_number : Option Half → ℕ
half_number None = 0
half_number (Some Left) = 1
half_number (Some Right) = 2

-- "the word number times 4, plus" that: the place as one number, without the bit
abbrev pub place_value : Fault → ℕ
place_value f = f.word * 4 + half_number f.half

-- x, unless b holds: then y. So a test and its refusal stand on one line, and the lines in 01's order.
abbrev pub unless : {A : Type 0} → Bool → A → A → A
unless b x y = cond b y x

-- what a test answers: that it is passed, or the fault
abbrev pub Verdict : Type 0
Verdict = Result (Unit {0}) Fault

abbrev pub pass : Verdict
pass = Ok tt
