-- The number and the value of each answer (01, "Refusal numbers": "A refusal returns its number"; "When accepted, making answers made,
-- open opened with the place, release released; made, released and more have the value 0. .. the termination block answers done with
-- the absolute start"), and how an answer is put into one 64-bit number for C (docs/ANSWERS.md). The value of a refusal is its place
-- (02, #105): "For 13 to 22 the answer's value becomes the word number times 4, plus 1 for a left half, 2 for a right half, 0
-- otherwise"; "Refusals 1 to 12 still return 0", as a fault told without a place does. The calls that are about a file alone, with
-- no desk, have answers of their own, with numbers behind these (02).
use Rattle.std.specs.Prelude.{ℕ, ◌+◌, ◌*◌, ◌^◌, ◌<◌}
use Rattle.word.specs.declared.Fault.{Fault}
use Rattle.word.specs.Fault.{place_value}
use Rattle.calls.specs.declared.Answer.{Answer}
use Rattle.calls.specs.declared.files.FileAnswer.{FileAnswer}
use Rattle.calls.specs.declared.files.FileAnswer.TheVariants.{Refused as FileRefused, Assigned, Needs, Resealed}
use Rattle.calls.specs.declared.Answer.TheVariants.{Refused, Made, Opened, More, Done, Released}

abbrev pub code_of : Answer → ℕ
code_of (Refused f) = f.number
code_of Made = 64
code_of (Opened p) = 65
code_of More = 66
code_of (Done start) = 67
code_of Released = 68

abbrev pub value_of : Answer → ℕ
value_of (Refused f) = place_value f
value_of Made = 0
value_of (Opened p) = p
value_of More = 0
value_of (Done start) = start.0
value_of Released = 0

-- a code and a value in one number
abbrev pub together : ℕ → ℕ → ℕ
together code value = code * 2 ^ 32 + value

abbrev pub packed : Answer → ℕ
packed a = together (code_of a) (value_of a)

-- a refusal that fits, and an answer that does: refusals have numbers below 64, values are below 2^32
abbrev pub SmallFault : Fault → Type 0
SmallFault f = (f.number < 64) × (place_value f < 2 ^ 32)

abbrev pub Small : Answer → Type 0
Small (Refused f) = SmallFault f
Small Made = Unit {0}
Small (Opened p) = p < 2 ^ 32
Small More = Unit {0}
Small (Done start) = start.0 < 2 ^ 32
Small Released = Unit {0}

-- what C is told of an answer: all of it but the bit of a fault, for which the value has no room
abbrev pub told_c : Answer → Answer
told_c (Refused f) = Refused (record { number = f.number; word = f.word; half = f.half; bit = 0 })
told_c Made = Made
told_c (Opened p) = Opened p
told_c More = More
told_c (Done start) = Done start
told_c Released = Released

-- ---- of a call about a file
abbrev pub file_code_of : FileAnswer → ℕ
file_code_of (FileRefused f) = f.number
file_code_of Assigned = 69
file_code_of (Needs n) = 70
file_code_of Resealed = 72

abbrev pub file_value_of : FileAnswer → ℕ
file_value_of (FileRefused f) = place_value f
file_value_of Assigned = 0
file_value_of (Needs n) = n
file_value_of Resealed = 0

abbrev pub file_packed : FileAnswer → ℕ
file_packed a = together (file_code_of a) (file_value_of a)

abbrev pub FileSmall : FileAnswer → Type 0
FileSmall (FileRefused f) = SmallFault f
FileSmall Assigned = Unit {0}
FileSmall (Needs n) = n < 2 ^ 32
FileSmall Resealed = Unit {0}
