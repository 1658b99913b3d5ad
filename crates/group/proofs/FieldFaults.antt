-- A refusal of a field is 19, 20 or 21, of the one word that it was given.
use Prim.Native.Nat.{ℕ, ◌+◌, ◌-◌, ◌≤◌}
use Rattle.std.specs.Prelude.{Result, Ok, Err, Some}
use mathlib.Core.Path.{◌≡◌, refl}
use mathlib.Core.Bool.{Bool}
use mathlib.Core.List.{List}
use native.Mathlib.Omega.{arith}
use lib.ListN.{length, get_or}
use lib.Dec.{ltb, leb, eqb}
use Rattle.word.specs.declared.Area.{Area}
use Rattle.word.specs.declared.Fault.{Fault}
use Rattle.word.specs.declared.Half.{Half}
use Rattle.word.specs.declared.Half.TheVariants.{Left, Right}
use Rattle.word.specs.Fault.{fault}
use Rattle.word.specs.declared.Reference.{Reference}
use Rattle.word.specs.declared.Relative.{Relative}
use Rattle.word.specs.Sorts.{absolute_of}
use Rattle.word.specs.Word.{part, is_set, field_of, a_field}
use Rattle.word.proofs.Cases.{both}
use Rattle.lists.specs.declared.Table.{Table}
use Rattle.field.specs.Field.{Assignments, relative, reference, address_or_length, table, valued, plus_or_minus, moved_field, referred}
use Rattle.field.specs.Field.{pair, minus_zero, short, long, constant, switch, unit, becomes, changed_lowest, changed_width, put_back}
use Rattle.field.specs.Field.{field_change, told_in, field_step}

-- the numbers of the table of refusals from m to n
abbrev pub Among : ℕ → ℕ → Fault → Type 0
Among m n f = (m ≤ f.number) × (f.number ≤ n)

-- of a field: 19 to 21, of the one word that it was given
pub record OfField (f : Fault) : Type 0 where
  pub number : Among 19 21 f
  pub word : f.word ≡ 0

abbrev IsOfField : Result ℕ Fault → Type 0
IsOfField (Ok v) = Unit {0}
IsOfField (Err f) = OfField f

is_19 : OfField (fault 19)
is_19 = record { number = (omega arith, omega arith); word = refl }

is_20 : OfField (fault 20)
is_20 = record { number = (omega arith, omega arith); word = refl }

is_21 : OfField (fault 21)
is_21 = record { number = (omega arith, omega arith); word = refl }

valued-fault : (v : ℕ) → IsOfField (valued v)
unfolding valued
valued-fault v = both IsOfField (ltb v 65536) tt is_21

plus-fault : (minus : Bool) (base amount : ℕ) → IsOfField (plus_or_minus minus base amount)
unfolding plus_or_minus
plus-fault minus base amount =
    both IsOfField minus (both IsOfField (leb amount base) (valued-fault (base - amount)) is_21)
    (valued-fault (base + amount))

moved_fault : (area : Area) (r : Relative) → IsOfField (moved_field area r)
unfolding moved_field
moved_fault area r = valued-fault (absolute_of area r).0

module _ (ts : List Table) where
  referred-fault : (sized : Bool) (k : Reference) (minus : Bool) (amount : ℕ) → IsOfField (referred ts sized k minus amount)
  unfolding referred
  referred-fault sized k minus amount =
      both IsOfField (ltb k.0 (length ts)) (plus-fault minus (address_or_length sized (table ts k)) amount) is_20

  pair-fault : (f : ℕ) → IsOfField (pair ts f)
  unfolding pair
  pair-fault f =
      both IsOfField (is_set 15 f) is_19
      (both IsOfField (ltb (part 0 7 f) (length ts)) (referred-fault _ _ _ _) is_20)

  short-fault : (f : ℕ) → IsOfField (short ts f)
  unfolding short
  short-fault f = both IsOfField (minus_zero (is_set 14 f) (part 0 6 f)) is_19 (referred-fault _ _ _ _)

  long-fault : (f x : ℕ) → IsOfField (long ts f x)
  unfolding long
  long-fault f x =
      both IsOfField (ltb (part 0 14 f) 64) is_19
      (both IsOfField (is_set 7 x) is_19 (referred-fault _ _ _ _))

  constant-fault : (f x : ℕ) → IsOfField (constant ts f x)
  unfolding constant
  constant-fault f x = both IsOfField (is_set 15 f) (long-fault f x) (short-fault f)

switch-fault : (ios : List ℕ) (channels : ℕ) (h : Half) (k : Reference) → IsOfField (switch ios channels h k)
unfolding switch
switch-fault ios channels Left k = both IsOfField (leb channels k.0) is_20 tt
switch-fault ios channels Right k = is_19

unit-fault : (ios : List ℕ) (channels : ℕ) (k : Reference) → IsOfField (unit ios channels k)
unfolding unit
unit-fault ios channels k =
    both IsOfField (ltb k.0 channels) is_20
    (both IsOfField (ltb k.0 (length ios)) (valued-fault (get_or ios k.0 0)) is_20)

becomes-fault : (a : Assignments) (h : Half) (t w x : ℕ) → IsOfField (becomes a h t w x)
unfolding becomes
becomes-fault a h t w x =
    both IsOfField (eqb t 0) (moved_fault a.area (relative (field_of h w)))
    (both IsOfField (eqb t 1) (pair-fault a.tables (field_of h w))
    (both IsOfField (eqb t 2) (constant-fault a.tables (field_of h w) x)
    (both IsOfField (eqb t 4) (switch-fault a.ios a.channels h (reference (a_field w)))
    (both IsOfField (eqb t 7) (unit-fault a.ios a.channels (reference (field_of h w))) is_19))))

-- ---- and it is told with the half, and with the place at which the half's indicator starts
pub record OfHalf (h : Half) (p : ℕ) (f : Fault) : Type 0 where
  pub number : Among 19 21 f
  pub word : f.word ≡ 0
  pub told : f.half ≡ Some h
  pub bit : f.bit ≡ p

abbrev pub IsOfHalf : Half → ℕ → Result ℕ Fault → Type 0
IsOfHalf h p (Ok v) = Unit {0}
IsOfHalf h p (Err f) = OfHalf h p f

put-fault : (k n w : ℕ) (b : Result ℕ Fault) → IsOfField b → (h : Half) (p : ℕ) → IsOfHalf h p (told_in h p (put_back k n w b))
unfolding put_back
put-fault k n w (Ok v) o h p = tt
put-fault k n w (Err f) o h p = record { number = o.number; word = o.word; told = refl; bit = refl }

pub field_fault : (a : Assignments) (h : Half) (p t w x : ℕ) → IsOfHalf h p (field_step a h p t w x)
unfolding field_step field_change
field_fault a h p t w x = put-fault (changed_lowest h t) (changed_width t) w (becomes a h t w x) (becomes-fault a h t w x) h p
