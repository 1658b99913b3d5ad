-- Groups worked by hand, in a core of eight words with the area at word 2. The words of a block are in octal.
use Rattle.std.specs.Prelude.{Err}
use mathlib.Core.Path.{◌≡◌, refl}
use mathlib.Core.Bool.{true}
use mathlib.Core.List.{List, [], ◌∷◌, ◌++◌, map, flat_map}
use Prim.Native.Nat.{ℕ}
use lib.ListN.{replicate}
use Rattle.word.specs.Fault.{fault}
use Rattle.word.specs.declared.Fault.{Fault}
use Rattle.word.specs.declared.Half.{Half}
use Rattle.word.specs.declared.Half.TheVariants.{Left, Right}
use Rattle.std.specs.Prelude.{Some}
use Rattle.word.specs.Lists.{range, splice, cleared}
use Rattle.word.specs.Runs.{within}
use Rattle.program.specs.Groups.{group_of}
use Rattle.field.specs.Field.{Assignments, valued, moved_field, becomes, put_back, field_change, field_step}
use Rattle.indicator.specs.Indicator.{bits_of, indicator_bits, bits_before, number_at, indicator_at, after_field, after_word, after_all}
use Rattle.group.specs.declared.Section.{Section}
use Rattle.group.specs.declared.Section.TheVariants.{Segment as InSegment, Table as InTable}
use Rattle.group.specs.Group.{ended, half_step, word_step, changed_words, words_lie, indicators_fit, group_fits, GroupOutcome, address_of}
use Rattle.group.specs.Group.{refused_group, stored_group, group_outcome, read_outcome, group_step}

abbrev load : Assignments
load = record {
  area = record { at = record { 0 = 2 }; size = 4 };
  tables = [];
  ios = [];
  channels = 0;
}

-- an IBANK of one word at the Program Name, as the hand deck's program block has it, and no DBANK
abbrev segment : Section
segment = InSegment (record {
  ibank = record { at = record { 0 = 0 }; count = 1 };
  dbank = record { at = record { 0 = 0 }; count = 0 };
})

-- a table of two words at word 4 of the core
abbrev table : Section
table = InTable (record { at = record { 0 = 4 }; len = 2 }) 2

-- the group at place i of a block, with the numbers 100 to 107 in the core
abbrev after : Section → List ℕ → ℕ → GroupOutcome
after section block i = group_step load section block i (100 ∷ 101 ∷ 102 ∷ 103 ∷ 104 ∷ 105 ∷ 106 ∷ 107 ∷ [])

-- the outcomes: the word at the Program Name is now v, or the table's second word is; a refusal cleared the former, or nothing
abbrev stored : ℕ → ℕ → GroupOutcome
stored p v = record { answer = ended p true; core = 100 ∷ 101 ∷ v ∷ 103 ∷ 104 ∷ 105 ∷ 106 ∷ 107 ∷ [] }

abbrev stored_in_table : ℕ → ℕ → GroupOutcome
stored_in_table p v = record { answer = ended p true; core = 100 ∷ 101 ∷ 102 ∷ 103 ∷ 104 ∷ v ∷ 106 ∷ 107 ∷ [] }

abbrev zeros_at : Fault → GroupOutcome
zeros_at f = record { answer = Err f; core = 100 ∷ 101 ∷ 0 ∷ 103 ∷ 104 ∷ 105 ∷ 106 ∷ 107 ∷ [] }

-- at the identifier; and in a half of word k after it, whose indicator is at bit b
abbrev zeros : ℕ → GroupOutcome
zeros n = zeros_at (fault n)

abbrev zeros_in : ℕ → ℕ → Half → ℕ → GroupOutcome
zeros_in n k h b = zeros_at (record { number = n; word = k; half = Some h; bit = b })

abbrev untouched : ℕ → GroupOutcome
untouched n = record { answer = Err (fault n); core = 100 ∷ 101 ∷ 102 ∷ 103 ∷ 104 ∷ 105 ∷ 106 ∷ 107 ∷ [] }

-- the hand deck's program block: its group at word 5 has one program word, 7, whose indicators are a 0, and 1 000 for its right
-- half
abbrev deck : List ℕ
deck =
    (0o502527242710 ∷ 0o000001000000 ∷ 0 ∷ 0 ∷ 0 ∷ 0o401001400000 ∷ 0o000000000007 ∷ 0o200000000000 ∷ [])
    ++ replicate 247 0
    ++ (0o000001146451 ∷ [])

-- what a group gives, and what 01 says
abbrev cases : List (GroupOutcome × GroupOutcome)
cases =
    -- the area's address is added to the right field
    (after segment deck 5, stored 8 9)
    -- a word more after the identifier: five bits need one indicator word, not two
    ∷ (after segment (0o401401400000 ∷ 0o000000000007 ∷ 0 ∷ 0o200000000000 ∷ []) 0, zeros 18)
    -- type 011, 0 and 1 011
    ∷ (after segment (0o401001400000 ∷ 0o000000000007 ∷ 0o260000000000 ∷ []) 0, zeros_in 19 1 Right 1)
    -- 1 000 and 1 011, where the left sum is too large: the first fault is given, not the lowest
    ∷ (after segment (0o401001400000 ∷ 0o177777000000 ∷ 0o426000000000 ∷ []) 0, zeros_in 21 1 Left 0)
    -- bit 16 and the address 1: the table's second word; in the segment there is no DBANK to hold it
    ∷ (after table (0o401001600001 ∷ 0o000000000007 ∷ 0o200000000000 ∷ []) 0, stored_in_table 3 9)
    ∷ (after segment (0o401001600001 ∷ 0o000000000007 ∷ 0o200000000000 ∷ []) 0, untouched 18)
    -- a group for the IBANK in a table section
    ∷ (after table (0o401001400000 ∷ 0o000000000007 ∷ 0o200000000000 ∷ []) 0, untouched 18)
    -- a last word at word 254, and one that would be at word 255
    ∷ (after segment (replicate 252 0 ++ (0o401001400000 ∷ 0o000000000007 ∷ 0o200000000000 ∷ [])) 252, stored 255 9)
    ∷ (after segment (replicate 253 0 ++ (0o401001400000 ∷ 0o000000000007 ∷ 0o200000000000 ∷ [])) 253, zeros 18)
    ∷ []

worked : map (λ (c : GroupOutcome × GroupOutcome). c.0) cases ≡ map (λ (c : GroupOutcome × GroupOutcome). c.1) cases
unfolding group_step read_outcome group_outcome group_fits words_lie indicators_fit stored_group refused_group address_of changed_words
    word_step half_step group_of within range splice cleared bits_before indicator_bits flat_map bits_of number_at indicator_at after_field
    after_word after_all field_step field_change put_back becomes moved_field valued
worked = refl
