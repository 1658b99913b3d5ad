-- What one field of a program word becomes: 01, "Program blocks", the table of types and the house forms below it. Refusals 19,
-- 20 and 21 are tested in that order.
use Rattle.std.specs.Prelude.{ℕ, ◌+◌, ◌-◌, ◌<◌, ◌^◌, Bool, true, false, cond, ◌&&◌, List, length, get_or, ltb, leb, eqb, Result, Ok, Err}
use Rattle.word.specs.declared.Area.{Area}
use Rattle.word.specs.declared.Fault.{Fault}
use Rattle.word.specs.declared.Half.{Half}
use Rattle.word.specs.declared.Half.TheVariants.{Left, Right}
use Rattle.word.specs.declared.Reference.{Reference}
use Rattle.word.specs.declared.Relative.{Relative}
use Rattle.word.specs.Fault.{fault, in_half}
use Rattle.word.specs.Sorts.{absolute_of}
use Rattle.word.specs.Word.{bits, put, is_set, lowest, field_of, a_field}
use Rattle.lists.specs.declared.Table.{Table}
use Rattle.lists.specs.Load.{core_tables, io_numbers}
use Rattle.lists.specs.Obey.{no_table}
use Rattle.field.specs.declared.Assigned.{Assigned}

-- What a load has been given: its area, its core tables, the numbers assigned to its I/O references, and how many of these are of
-- types 0 and 2. References are numbered through the types 0, 2 and 3 in that order.
pub record Assignments : Type 0 where
  pub area : Area
  pub tables : List Table
  pub ios : List ℕ
  pub channels : ℕ

-- a number that a field holds, as the sort that it is
abbrev pub relative : ℕ → Relative
relative n = record { 0 = n }

abbrev pub reference : ℕ → Reference
reference n = record { 0 = n }

-- refusal 21: "value outside 0 to 65,535"
abbrev pub value_limit : ℕ
value_limit = 65536

unfoldable pub valued : ℕ → Result ℕ Fault
valued v = cond (ltb v value_limit) (Ok v) (Err (fault 21))

-- "plus or minus": neither the sum nor the difference wraps
unfoldable pub plus_or_minus : Bool → ℕ → ℕ → Result ℕ Fault
plus_or_minus minus base amount =
    cond minus
    (cond (leb amount base) (valued (base - amount)) (Err (fault 21)))
    (valued (base + amount))

-- type 000: "field plus the area's address"
unfoldable pub moved_field : Area → Relative → Result ℕ Fault
moved_field area r = valued (absolute_of area r).0

-- core table k; `referred` and `pair` first test that there is one
unfoldable pub table : List Table → Reference → Table
table ts k = get_or ts k.0 no_table

-- "table address or length"
abbrev pub address_or_length : Bool → Table → ℕ
address_or_length sized t = cond sized t.len t.at.0

-- the one or the other, plus or minus an amount; 20 where there is no such table. A table's address is absolute already: the
-- area's is not added.
unfoldable pub referred : List Table → Bool → Reference → Bool → ℕ → Result ℕ Fault
referred ts sized k minus amount =
    cond (ltb k.0 (length ts)) (plus_or_minus minus (address_or_length sized (table ts k)) amount) (Err (fault 20))

-- type 001: "bit 15 zero, bit 14 set for minus, bits 13-7 the address's number, bits 6-0 the length's"
unfoldable pub pair : List Table → ℕ → Result ℕ Fault
pair ts f =
    cond (is_set 15 f) (Err (fault 19))
    (cond (ltb (bits 6 0 f) (length ts))
    (referred ts false (reference (bits 13 7 f)) (is_set 14 f) (address_or_length true (table ts (reference (bits 6 0 f)))))
    (Err (fault 20)))

-- "minus with constant 0"
unfoldable pub minus_zero : Bool → ℕ → Bool
minus_zero minus amount = minus && eqb amount 0

-- type 010 short: "bit 15 zero, bit 14 set for minus, bit 13 set for a length, bits 12-6 the number, bits 5-0 the constant"
unfoldable pub short : List Table → ℕ → Result ℕ Fault
short ts f =
    cond (minus_zero (is_set 14 f) (bits 5 0 f)) (Err (fault 19))
    (referred ts (is_set 13 f) (reference (bits 12 6 f)) (is_set 14 f) (bits 5 0 f))

-- "a constant of 64 or more"
abbrev pub long_least : ℕ
long_least = 64

-- type 010 long: "bit 15 set, bit 14 set for minus, bits 13-0 a constant of 64 or more, and nine more indicator bits: set for a
-- length, a zero, and seven bits of number"; x is these nine
unfoldable pub long : List Table → ℕ → ℕ → Result ℕ Fault
long ts f x =
    cond (ltb (bits 13 0 f) long_least) (Err (fault 19))
    (cond (is_set 7 x) (Err (fault 19))
    (referred ts (is_set 8 x) (reference (bits 6 0 x)) (is_set 14 f) (bits 13 0 f)))

-- type 010
unfoldable pub constant : List Table → ℕ → ℕ → Result ℕ Fault
constant ts f x = cond (is_set 15 f) (long ts f x) (short ts f)

-- type 100: "left only: bits 25-22, a number below the type 0 and 2 count, become its assignment". By refusal 16 that is at most
-- 15; its low four bits are taken so that the definition is total.
unfoldable pub switch : List ℕ → ℕ → Half → Reference → Result ℕ Fault
switch ios channels Left k = cond (leb channels k.0) (Err (fault 20)) (Ok (bits 3 0 (get_or ios k.0 0)))
switch ios channels Right k = Err (fault 19)

-- type 111: "the field, a number of a type 3 entry, becomes its assignment". By refusal 8 that is at most 65,535, so that 21
-- never comes of it.
unfoldable pub unit : List ℕ → ℕ → Reference → Result ℕ Fault
unit ios channels k =
    cond (ltb k.0 channels) (Err (fault 20))
    (cond (ltb k.0 (length ios)) (valued (get_or ios k.0 0))
    (Err (fault 20)))

-- what the bits that type t changes in half h of the word w become; "Others are 19."
unfoldable pub becomes : Assignments → Half → ℕ → ℕ → ℕ → Result ℕ Fault
becomes a h t w x =
    cond (eqb t 0) (moved_field a.area (relative (field_of h w)))
    (cond (eqb t 1) (pair a.tables (field_of h w))
    (cond (eqb t 2) (constant a.tables (field_of h w) x)
    (cond (eqb t 4) (switch a.ios a.channels h (reference (a_field w)))
    (cond (eqb t 7) (unit a.ios a.channels (reference (field_of h w)))
    (Err (fault 19))))))

-- these bits: 25-22 for type 100, else the field of the half
abbrev pub changed_lowest : Half → ℕ → ℕ
changed_lowest h t = cond (eqb t 4) 22 (lowest h)

abbrev pub changed_width : ℕ → ℕ
changed_width t = cond (eqb t 4) 4 16

-- the word with what its n bits from bit k up become
unfoldable pub put_back : ℕ → ℕ → ℕ → Result ℕ Fault → Result ℕ Fault
put_back k n w (Ok v) = Ok (put k n w v)
put_back k n w (Err f) = Err f

-- what becomes of a word by a change of type t in its half h, or the number of a refusal; x is the nine more indicator bits of a long
-- type 010
unfoldable pub field_change : Assignments → Half → ℕ → ℕ → ℕ → Result ℕ Fault
field_change a h t w x = put_back (changed_lowest h t) (changed_width t) w (becomes a h t w x)

-- a refusal with its half and bit
abbrev pub told_in : Half → ℕ → Result ℕ Fault → Result ℕ Fault
told_in h b (Ok v) = Ok v
told_in h b (Err f) = Err (in_half h b f)

-- "The field step shall tell which half and at which bit of the indicators it stopped": b bits of the group's indicators stand before
-- this half's own
unfoldable pub field_step : Assignments → Half → ℕ → ℕ → ℕ → ℕ → Result ℕ Fault
field_step a h b t w x = told_in h b (field_change a h t w x)

-- a value that n bits can hold
abbrev pub Fits : ℕ → Result ℕ Fault → Type 0
Fits n (Ok v) = v < 2 ^ n
Fits n (Err f) = Unit {0}

-- the assignments of a load whose lists the desk keeps as crate `lists` says
unfoldable pub assigned_by : Assigned → List ℕ → Assignments
assigned_by s l = record {
  area = s.given.area;
  tables = core_tables s.given l;
  ios = io_numbers s.given l;
  channels = s.channels;
}
