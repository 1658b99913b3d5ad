-- A word's halves, one after the other with a cursor: how the code goes, not a rule of 01.
use Rattle.std.specs.Prelude.{ℕ, ◌+◌, ◌/◌, ◌^◌, ◌≤◌, ◌<◌, Bool, cond, List, ltb, eqb, Result, Ok, Err, Option, Some, None}
use Rattle.word.specs.declared.Area.{Area}
use Rattle.word.specs.declared.Fault.{Fault}
use Rattle.word.specs.declared.Half.{Half}
use Rattle.word.specs.declared.Half.TheVariants.{Left, Right}
use Rattle.word.specs.Limits.{core_most}
use Rattle.word.specs.Sorts.{absolute_of, right_moved}
use Rattle.word.specs.Word.{field_of}
use Rattle.lists.specs.declared.Given.{Given}
use Rattle.lists.specs.Load.{Readable}
use Rattle.field.specs.declared.Stepped.{Stepped}
use Rattle.field.specs.Field.{Assignments, relative, value_limit}
use Rattle.indicator.specs.declared.Cursor.{Cursor}
use Rattle.indicator.specs.Indicator.{width_of}
use Rattle.indicator.specs.HowCursor.{look_of, past_bits, past_field}
use Rattle.group.specs.Group.{half_step, then_half}

-- go on with the word, or stop
abbrev pub onward : Result ℕ Fault → (ℕ → Option (ℕ × Cursor)) → Option (ℕ × Cursor)
onward (Ok v) next = next v
onward (Err f) next = None

-- a half of the word w, from the cursor before its indicator to the cursor past it; as nothing is told of a refusal, the indicator's
-- place does not matter
unfoldable pub half_of : Assignments → Half → ℕ → Cursor → Option (ℕ × Cursor)
half_of a h w c = onward (half_step a h 0 (look_of c.ahead (field_of h w)) w) (λ v. Some (v, past_field c (field_of h w)))

-- its left half, and then the right half of what that gave
abbrev pub then_right : Assignments → Option (ℕ × Cursor) → Option (ℕ × Cursor)
then_right a (Some s) = half_of a Right s.0 s.1
then_right a None = None

unfoldable pub both_of : Assignments → ℕ → Cursor → Option (ℕ × Cursor)
both_of a w c = then_right a (half_of a Left w c)

-- both halves by the indicators that come next, the first at place p, where the refusal is wanted (`word_of`, proofs/Both.antt: it is
-- `word_step`)
unfoldable pub word_of : Assignments → ℕ → ℕ → Cursor → Result ℕ Fault
word_of a p w c =
    then_half (half_step a Left p (look_of c.ahead (field_of Left w)) w)
    (half_step a Right (p + width_of (look_of c.ahead (field_of Left w)))
    (look_of (past_field c (field_of Left w)).ahead (field_of Right w)))

-- where four bits are passed: nine more for a long one
abbrev pub passed_bits : Cursor → Option Stepped → Option (ℕ × Cursor)
passed_bits c (Some s) = Some (s.word, cond s.long (past_bits c 9) c)
passed_bits c None = None

-- the bits 01000: no change, then type 000, the commonest change
abbrev pub is_moved : Cursor → Bool
is_moved c = eqb (c.ahead / 2 ^ 59) 8

-- a word with such indicators (`moved_both`, proofs/Both.antt: it is the same)
unfoldable pub moved_word : Area → ℕ → Cursor → Option (ℕ × Cursor)
moved_word area w c =
    cond (ltb (absolute_of area (relative (field_of Right w))).0 value_limit) (Some (right_moved area w, past_bits c 5)) None

-- ---- what is known before: where a word or a half of it is changed, whose indicators have so many bits at most, and where such a
-- word is moved
pub record HalfReady (g : Given) (l : List ℕ) (w : ℕ) (c : Cursor) (most : ℕ) : Type 0 where
  pub lists : Readable g l
  pub word : w < 2 ^ 36
  pub near : most ≤ c.left

pub record MovedReady (area : Area) (c : Cursor) (w : ℕ) : Type 0 where
  pub inside : area.at.0 ≤ core_most
  pub word : w < 2 ^ 36
  pub near : 5 ≤ c.left
