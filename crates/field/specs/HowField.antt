-- A field's step where only the word is wanted: how the code goes, not a rule of 01.
use Rattle.std.specs.Prelude.{ℕ, Bool, ◌&&◌, eqb, Result, Ok, Err, Option, Some, None}
use Rattle.word.specs.declared.Fault.{Fault}
use Rattle.word.specs.Word.{is_set}
use Rattle.field.specs.declared.Stepped.{Stepped}

-- type 010 with the field's bit 15 set has nine indicator bits more
abbrev pub is_long : ℕ → ℕ → Bool
is_long t f = eqb t 2 && is_set 15 f

-- the word, marked as one by a long type; of a refusal nothing but that it is one
abbrev pub stepped : Bool → Result ℕ Fault → Option Stepped
stepped long (Ok v) = Some (record { word = v; long = long })
stepped long (Err f) = None
