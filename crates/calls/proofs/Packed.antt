-- C can take an answer's number apart again: its code is what stands above 2^32, its value what stands below.
use Prim.Native.Nat.{ℕ, ◌/◌, ◌%◌, ◌^◌, ◌<◌}
use mathlib.Core.Path.{◌≡◌}
use native.Mathlib.Omega.{arith}
use Rattle.word.specs.Fault.{fault}
use Rattle.calls.specs.Answer.{code_of, value_of, packed, SmallFault, Small, file_code_of, file_value_of, file_packed, FileSmall}
use Rattle.calls.specs.declared.Answer.{Answer}
use Rattle.calls.specs.declared.Answer.TheVariants.{Refused, Made, Opened, More, Done, Released}
use Rattle.calls.specs.declared.files.FileAnswer.{FileAnswer}
use Rattle.calls.specs.declared.files.FileAnswer.TheVariants.{Refused as FileRefused, Assigned, Needs, Resealed}

-- a refusal without a place fits
pub small_fault : (n : ℕ) → n < 64 → SmallFault (fault n)
small_fault n h = (h, omega arith)

pub packed-apart : (a : Answer) → Small a → (packed a / 2 ^ 32 ≡ code_of a) × (packed a % 2 ^ 32 ≡ value_of a)
packed-apart (Refused f) h = (omega arith, omega arith)
packed-apart Made h = (omega arith, omega arith)
packed-apart (Opened p) h = (omega arith, omega arith)
packed-apart More h = (omega arith, omega arith)
packed-apart (Done start) h = (omega arith, omega arith)
packed-apart Released h = (omega arith, omega arith)

pub file_packed-apart : (a : FileAnswer) → FileSmall a
    → (file_packed a / 2 ^ 32 ≡ file_code_of a) × (file_packed a % 2 ^ 32 ≡ file_value_of a)
file_packed-apart (FileRefused f) h = (omega arith, omega arith)
file_packed-apart Assigned h = (omega arith, omega arith)
file_packed-apart (Needs n) h = (omega arith, omega arith)
file_packed-apart Resealed h = (omega arith, omega arith)
