-- Every P case holds: one theorem over the one list, by computing.
use Prim.Native.Nat.{ℕ}
use mathlib.Core.Path.{◌≡◌, refl}
use mathlib.Core.List.{map}
use Rattle.word.specs.declared.Half.{Half}
use Rattle.word.specs.declared.Half.TheVariants.{Left, Right}
use Rattle.block.specs.Fieldata.{spelt}
use Rattle.block.specs.Records.{modification, program, termination}
use Rattle.block.specs.Checksum.{sum_of, checksum}
use Rattle.field.specs.Field.{valued, plus_or_minus, moved_field, table, referred, minus_zero, short, long, constant, becomes, put_back}
use Rattle.field.specs.Field.{field_change, field_step}
use Rattle.hand_deck.specs.Hand.{cases}

pub hand : (h : Half) → map (λ (c : ℕ × ℕ). c.0) (cases h) ≡ map (λ (c : ℕ × ℕ). c.1) (cases h)
unfolding spelt modification program termination sum_of checksum valued plus_or_minus moved_field table referred minus_zero short long
    constant becomes put_back field_change field_step
hand Left = refl
hand Right = refl
