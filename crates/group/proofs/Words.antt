-- What the program words of a group become: as many words, each below 2^36.
use Rattle.std.specs.Prelude.{Result, Ok, Err}
use mathlib.Core.Path.{◌≡◌, refl}
use mathlib.Core.Bool.{true}
use mathlib.Core.List.{List, [], ◌∷◌}
use Prim.Native.Nat.{ℕ, suc, ◌<◌, ◌^◌}
use native.Mathlib.Omega.{arith}
use lib.ListN.{length}
use borrow.Author.Tests.{lt-ltb, ltb-true}
use Rattle.word.specs.declared.Fault.{Fault}
use Rattle.word.specs.declared.Half.{Half}
use Rattle.word.specs.declared.Half.TheVariants.{Left, Right}
use Rattle.word.specs.Lists.{every}
use Rattle.word.specs.Word.{is_word, field_of}
use Rattle.word.proofs.Stretch.{every_both, every_head, every_tail}
use Rattle.field.specs.Field.{Assignments}
use Rattle.indicator.specs.declared.Indicator.{Indicator}
use Rattle.indicator.specs.Indicator.{indicator_at, after_field, after_word}
use Rattle.group.specs.Group.{half_step, then_half, word_step, Words, then_words, changed_words}
use Rattle.group.specs.Group.Words.{Become, Refuse}
use Rattle.group.proofs.Both.{half_word}

abbrev pub Below : Result ℕ Fault → Type 0
Below (Ok v) = is_word v ≡ true
Below (Err f) = Unit {0}

abbrev pub Many : ℕ → Words → Type 0
Many n (Become vs) = length vs ≡ n
Many n (Refuse f) = Unit {0}

abbrev pub AllBelow : Words → Type 0
AllBelow (Become vs) = every is_word vs ≡ true
AllBelow (Refuse f) = Unit {0}

then_below : (r : Result ℕ Fault) (next : ℕ → Result ℕ Fault) → Below r → ((v : ℕ) → is_word v ≡ true → Below (next v)) → Below (then_half r next)
then_below (Ok v) next h k = k v h
then_below (Err f) next h k = tt

then_many : (r : Result ℕ Fault) (rest : Words) (n : ℕ) → Many n rest → Many (suc n) (then_words r rest)
then_many (Ok v) (Become vs) n h = omega arith
then_many (Ok v) (Refuse f) n h = tt
then_many (Err f) rest n h = tt

then-all : (r : Result ℕ Fault) (rest : Words) → Below r → AllBelow rest → AllBelow (then_words r rest)
then-all (Ok v) (Become vs) h k = every_both is_word v vs h k
then-all (Ok v) (Refuse f) h k = tt
then-all (Err f) rest h k = tt

module _ (a : Assignments) where
  half_below : (h : Half) (p : ℕ) (m : Indicator) (w : ℕ) → is_word w ≡ true → Below (half_step a h p m w)
  half_below h p m w b = told (half_step a h p m w) (λ u e. half_word a h p m w u (ltb-true w (2 ^ 36) b) e)
    where
      told : (r : Result ℕ Fault) → ((u : ℕ) → r ≡ Ok u → u < 2 ^ 36) → Below r
      told (Ok u) k = lt-ltb u (2 ^ 36) (k u refl)
      told (Err f) k = tt

  module _ (bits : List ℕ) where
    pub word_below : (p w : ℕ) → is_word w ≡ true → Below (word_step a bits p w)
    unfolding word_step
    word_below p w b =
        then_below (half_step a Left p (indicator_at bits p (field_of Left w)) w) _
        (half_below Left p (indicator_at bits p (field_of Left w)) w b)
        (λ v k. half_below Right (after_field bits p (field_of Left w)) (indicator_at bits (after_field bits p (field_of Left w)) (field_of Right w)) v k)

    pub changed-many : (p : ℕ) (ws : List ℕ) → Many (length ws) (changed_words a bits p ws)
    unfolding changed_words
    changed-many p [] = refl
    changed-many p (w ∷ ws) = then_many (word_step a bits p w) _ (length ws) (changed-many (after_word bits p w) ws)

    pub changed_below : (p : ℕ) (ws : List ℕ) → every is_word ws ≡ true → AllBelow (changed_words a bits p ws)
    unfolding changed_words every
    changed_below p [] b = refl
    changed_below p (w ∷ ws) b =
        then-all (word_step a bits p w) _ (word_below p w (every_head is_word w ws b))
        (changed_below (after_word bits p w) ws (every_tail is_word w ws b))
