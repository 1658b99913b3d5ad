-- The P cases of 01's hand deck, all in one list: each a pair, the number that the definitions give and the number that 01 says,
-- or request #104 where it changed that. A field's case is in either half, since 01 does not say which.
use Rattle.std.specs.Prelude.{ℕ, ◌+◌, ◌-◌, ◌*◌, ◌^◌, List, [], ◌∷◌, Result, Ok, Err}
use Rattle.word.specs.declared.Fault.{Fault}
use Rattle.word.specs.declared.Half.{Half}
use Rattle.word.specs.Word.{field_of, field_stored}
use Rattle.block.specs.Records.{modification, program, termination}
use Rattle.block.specs.Checksum.{checksum}
use Rattle.field.specs.Field.{Assignments, field_step}

-- "area at 5000", "table 0 at 40,000, length 120"
abbrev pub deck_load : Assignments
deck_load = record {
  area = record { at = record { 0 = 5000 }; size = 60536 };
  tables = record { at = record { 0 = 40000 }; len = 120 } ∷ [];
  ios = [];
  channels = 0;
}

-- an answer as one number: the field of half h, or the refusal's number times 2^32
abbrev pub refusal : ℕ → ℕ
refusal n = n * 2 ^ 32

abbrev pub as_number : Half → Result ℕ Fault → ℕ
as_number h (Ok w) = field_of h w
as_number h (Err f) = refusal f.number

-- the field f of half h in a word else zero, changed by type t, no indicator bits before its own; x is the nine more bits of a long type
-- 010
abbrev pub changed : Half → ℕ → ℕ → ℕ → ℕ
changed h t f x = as_number h (field_step deck_load h 0 t (field_stored h 0 f) x)

abbrev pub cases : Half → List (ℕ × ℕ)
cases h =
    -- "the three identifiers spelt from their letters"
    (modification, 0o502224112710)
    ∷ (program, 0o502527242710)
    ∷ (termination, 0o503127222710)
    -- "word sum 0 gives checksum 0; one word 2^36-1 gives 524,286; two give 524,285"; #104: "Two words of 2^36-1 now give
    -- 524,286"
    ∷ (checksum [], 0)
    ∷ (checksum ((2 ^ 36 - 1) ∷ []), 524286)
    ∷ (checksum ((2 ^ 36 - 1) ∷ (2 ^ 36 - 1) ∷ []), 524286)
    -- "area at 5000, type 000, field 60,535 gives 65,535; 60,536 gives 21"
    ∷ (changed h 0 60535 0, 65535)
    ∷ (changed h 0 60536 0, refusal 21)
    -- "table 0 .., type 010: field 5 gives 40,005; 8197 gives 125; 16,389 gives 39,995; 16,384 gives 19"
    ∷ (changed h 2 5 0, 40005)
    ∷ (changed h 2 8197 0, 125)
    ∷ (changed h 2 16389 0, 39995)
    ∷ (changed h 2 16384 0, refusal 19)
    -- "long, constant 100 added to table 0: 40,100; constant 63 gives 19": bit 15 is set; the nine more bits 0 are table 0's
    -- address
    ∷ (changed h 2 (2 ^ 15 + 100) 0, 40100)
    ∷ (changed h 2 (2 ^ 15 + 63) 0, refusal 19)
    ∷ []
