-- A group's refusal is 18, 19, 20 or 21, at its place.
use Prim.Native.Nat.{ℕ, zero, suc, ◌+◌, ◌-◌, ◌*◌, ◌≤◌, ◌<◌}
use Rattle.std.specs.Prelude.{Result, Ok, Err, Some}
use mathlib.Core.Path.{◌≡◌, refl, sym, ◌∙◌}
use mathlib.Core.Bool.{true}
use mathlib.Core.Logic.{◌⊎◌, inl, inr}
use mathlib.Core.List.{List, [], ◌∷◌}
use native.Mathlib.Omega.{arith}
use lib.ListN.{length, get_or}
use lib.Dec.{leb, eqb}
use borrow.Author.Tests.{leb-true}
use Rattle.word.specs.declared.Fault.{Fault}
use Rattle.word.specs.declared.Half.{Half}
use Rattle.word.specs.declared.Half.TheVariants.{Left, Right}
use Rattle.word.specs.Fault.{fault, further}
use Rattle.word.specs.Limits.{words_in_block}
use Rattle.word.specs.Word.{word_bits, part, field_of}
use Rattle.word.proofs.Cases.{both, when, and_left, and_right}
use Rattle.word.proofs.Lists.{length-range_most}
use Rattle.program.specs.Sections.{last_word}
use Rattle.program.specs.declared.Group.{Group}
use Rattle.std.specs.Prelude.{Result, Ok, Err}
use Rattle.program.specs.Groups.{group_of}
use Rattle.program.specs.Pieces.{HasGroup}
use Rattle.field.specs.Field.{Assignments}
use Rattle.indicator.specs.declared.Indicator.{Indicator}
use Rattle.indicator.specs.declared.Indicator.TheVariants.{Same, Change, Long}
use Rattle.indicator.specs.Indicator.{width_of, indicator_at, after_field, after_word, after_all}
use Rattle.group.specs.declared.GroupEnd.{GroupEnd}
use Rattle.group.specs.declared.Section.{Section}
use Rattle.group.specs.Group.{half_step, then_half, word_step, Words, then_words, changed_words, program_words, indicator_bits_in}
use Rattle.group.specs.Group.{in_one_block, holds_program, words_lie, indicators_fit, group_fits, GroupOutcome, refused_group}
use Rattle.group.specs.Group.{stored_group, group_outcome, read_outcome, group_step}
use Rattle.group.specs.Places.{half_place, indicator_place, Placed}
use Rattle.group.specs.Group.Words.{Become, Refuse}
use Rattle.group.proofs.FieldFaults.{Among, OfHalf, IsOfHalf, field_fault}

-- ---- places: an indicator has a bit at least, so that each starts before the place after all
width_some : (m : Indicator) → 1 ≤ width_of m
width_some Same = omega arith
width_some (Change t) = omega arith
width_some (Long x) = omega arith

module _ (bits : List ℕ) where
  past_field_lem : (p f : ℕ) → p < after_field bits p f
  unfolding after_field
  past_field_lem p f = let k = width_some (indicator_at bits p f) in omega arith

  half_before : (p w : ℕ) (h : Half) → (p ≤ half_place bits p w h) × (half_place bits p w h < after_word bits p w)
  unfolding after_word
  half_before p w Left =
      let l = past_field_lem p (field_of Left w) in
      let r = past_field_lem (after_field bits p (field_of Left w)) (field_of Right w) in (omega arith, omega arith)
  half_before p w Right =
      let l = past_field_lem p (field_of Left w) in
      let r = past_field_lem (after_field bits p (field_of Left w)) (field_of Right w) in (omega arith, omega arith)

  past_word_lem : (p w : ℕ) → p ≤ after_word bits p w
  past_word_lem p w = let h = half_before p w Left in omega (arith, h.0, h.1)

  past_all : (p : ℕ) (ws : List ℕ) → p ≤ after_all bits p ws
  unfolding after_all
  past_all p [] = omega arith
  past_all p (w ∷ ws) = omega (arith, past_word_lem p w, past_all (after_word bits p w) ws)

  -- of the first word, and of a later one
  place-first : (p w : ℕ) (ws : List ℕ) (k : ℕ) (h : Half) → k ≡ 0 → indicator_place bits p (w ∷ ws) k h ≡ half_place bits p w h
  unfolding indicator_place after_all
  place-first p w ws k h e = rw e

  place_later : (p w : ℕ) (ws : List ℕ) (k j : ℕ) (h : Half) → k ≡ suc j
      → indicator_place bits p (w ∷ ws) k h ≡ indicator_place bits (after_word bits p w) ws j h
  unfolding indicator_place after_all
  place_later p w ws k j h e = rw e

  place-before : (p : ℕ) (ws : List ℕ) (k : ℕ) (h : Half) → k < length ws → indicator_place bits p ws k h < after_all bits p ws
  unfolding after_all
  place-before p [] k h l = absurd (omega arith)
  place-before p (w ∷ ws) zero h l =
      rw (place-first p w ws 0 h refl) (omega (arith, (half_before p w h).1, past_all (after_word bits p w) ws))
  place-before p (w ∷ ws) (suc k) h l =
      rw (place_later p w ws (suc k) k h refl) (place-before (after_word bits p w) ws k h (omega arith))

  -- ---- a refusal among the words ws, whose indicators start at place p: of a half of one of them, at its place
  pub record OfWord (p w : ℕ) (f : Fault) : Type 0 where
    pub half : Half
    pub in_half_lem : OfHalf half (half_place bits p w half) f

  pub record OfWords (p : ℕ) (ws : List ℕ) (f : Fault) : Type 0 where
    pub number : Among 19 21 f
    pub word : f.word < length ws
    pub half : Half
    pub told : f.half ≡ Some half
    pub bit : f.bit ≡ indicator_place bits p ws f.word half

  abbrev pub IsOfWord : ℕ → ℕ → Result ℕ Fault → Type 0
  IsOfWord p w (Ok v) = Unit {0}
  IsOfWord p w (Err f) = OfWord p w f

  abbrev pub IsOfWords : ℕ → List ℕ → Words → Type 0
  IsOfWords p ws (Become vs) = Unit {0}
  IsOfWords p ws (Refuse f) = OfWords p ws f

  in_word : (p w : ℕ) (h : Half) (r : Result ℕ Fault) → IsOfHalf h (half_place bits p w h) r → IsOfWord p w r
  in_word p w h (Ok v) o = tt
  in_word p w h (Err f) o = record { half = h; in_half_lem = o }

  then_half_lem : (p w : ℕ) (r : Result ℕ Fault) (next : ℕ → Result ℕ Fault) → IsOfWord p w r → ((v : ℕ) → IsOfWord p w (next v))
      → IsOfWord p w (then_half r next)
  then_half_lem p w (Ok v) next h k = k v
  then_half_lem p w (Err f) next h k = h

  then_words_lem : (p w : ℕ) (ws : List ℕ) (r : Result ℕ Fault) (rest : Words) → IsOfWord p w r → IsOfWords (after_word bits p w) ws rest
      → IsOfWords p (w ∷ ws) (then_words r rest)
  then_words_lem p w ws (Ok v) (Become vs) h k = tt
  then_words_lem p w ws (Ok v) (Refuse f) h k = record {
    number = k.number;
    word = omega (arith, k.word);
    half = k.half;
    told = k.told;
    bit = k.bit ∙ sym (place_later p w ws (1 + f.word) f.word k.half (omega arith));
  }
  then_words_lem p w ws (Err f) rest h k = record {
    number = h.in_half_lem.number;
    word = omega (arith, h.in_half_lem.word);
    half = h.half;
    told = h.in_half_lem.told;
    bit = h.in_half_lem.bit ∙ sym (place-first p w ws f.word h.half h.in_half_lem.word);
  }

module _ (a : Assignments) where
  half_fault : (h : Half) (p : ℕ) (m : Indicator) (w : ℕ) → IsOfHalf h p (half_step a h p m w)
  unfolding half_step
  half_fault h p Same w = tt
  half_fault h p (Change t) w = field_fault a h p t w 0
  half_fault h p (Long x) w = field_fault a h p 2 w x

  pub word_fault : (bits : List ℕ) (p w : ℕ) → IsOfWord bits p w (word_step a bits p w)
  unfolding word_step
  word_fault bits p w =
      let q = after_field bits p (field_of Left w) in
      then_half_lem bits p w (half_step a Left p (indicator_at bits p (field_of Left w)) w) _
      (in_word bits p w Left (half_step a Left p (indicator_at bits p (field_of Left w)) w)
      (half_fault Left p (indicator_at bits p (field_of Left w)) w))
      (λ v. in_word bits p w Right (half_step a Right q (indicator_at bits q (field_of Right w)) v)
      (half_fault Right q (indicator_at bits q (field_of Right w)) v))

  pub words_fault : (bits : List ℕ) (p : ℕ) (ws : List ℕ) → IsOfWords bits p ws (changed_words a bits p ws)
  unfolding changed_words
  words_fault bits p [] = tt
  words_fault bits p (w ∷ ws) =
      then_words_lem bits p w ws (word_step a bits p w) _ (word_fault bits p w) (words_fault bits (after_word bits p w) ws)

-- ---- the group, counted from its identifier at word i of the block

-- what reads as a group there is one of the block's groups
abbrev pub Stands : List ℕ → ℕ → Type 0
Stands block i = (g : Group) → group_of (get_or block i 0) ≡ Ok g → HasGroup block i g

-- a fault of what stands there, from the number `least` on
pub record OfItem (least : ℕ) (block : List ℕ) (i : ℕ) (f : Fault) : Type 0 where
  pub number : Among least 21 f
  pub inside : i + f.word < words_in_block
  pub place : Stands block i → Placed block (further i f)

-- of its first word
pub of_first : (least n : ℕ) (block : List ℕ) (i : ℕ) → i ≤ last_word → least ≤ n → n < 19 → OfItem least block i (fault n)
of_first least n block i top l h = record {
  number = (l, omega arith);
  inside = omega arith;
  place = λ s. record { inside = omega arith; field = λ k m. absurd (omega arith); whole = λ o. (refl, refl) };
}

abbrev pub IsOfGroup : List ℕ → ℕ → Result GroupEnd Fault → Type 0
IsOfGroup block i (Ok e) = Unit {0}
IsOfGroup block i (Err f) = OfItem 18 block i f

module _ (a : Assignments) (section : Section) (block : List ℕ) (i : ℕ) (top : i ≤ last_word) (core : List ℕ) where
  abbrev Answered : GroupOutcome → Type 0
  Answered o = IsOfGroup block i o.answer

  whole_18 : OfItem 18 block i (fault 18)
  whole_18 = of_first 18 18 block i top (omega arith) (omega arith)

  refused-fault : (g : Group) (f : Fault) → OfItem 18 block i f → Answered (refused_group a.area section g core f)
  unfolding refused_group
  refused-fault g f h = h

  module _ (g : Group) (read : group_of (get_or block i 0) ≡ Ok g) (fit : group_fits section block i g ≡ true) where
    abbrev marks : ℕ
    marks = g.words - g.program

    abbrev ends : ℕ
    ends = after_all (indicator_bits_in block i g) 0 (program_words block i g)

    fits : (i + g.words ≤ last_word) × (g.program ≤ g.words) × (ends ≤ word_bits * marks)
    unfolding group_fits indicators_fit
    fits =
        let r = and_right (in_one_block i g) _ fit in
        let q = and_right (words_lie section g) _ (and_right (holds_program g) _ r) in (
          leb-true (i + g.words) last_word (and_left (in_one_block i g) _ fit),
          leb-true g.program g.words (and_left (holds_program g) _ r),
          leb-true ends (word_bits * marks) (and_left (leb ends (word_bits * marks)) _ q),
        )

    not-whole : (f : Fault) → Among 19 21 f → (f.number < 19) ⊎ (21 < f.number) → ⊥
    not-whole f h (inl x) = omega (arith, h.0)
    not-whole f h (inr x) = omega (arith, h.1)

    abbrev bits : List ℕ
    bits = indicator_bits_in block i g

    field_of_lem : (f : Fault) → OfWords bits 0 (program_words block i g) f → OfItem 18 block i (further 1 f)
    field_of_lem f o =
        let n : length (program_words block i g) ≤ g.program = length-range_most block (i + 1) g.program in
        let b = place-before bits 0 (program_words block i g) f.word o.half o.word in
        record {
          number = (omega (arith, o.number.0), omega (arith, o.number.1));
          inside = omega (arith, o.word, n, fits.0, fits.1);
          place = λ s. record {
            inside = omega (arith, o.word, n, fits.0, fits.1);
            field = λ l h. record {
              identifier = i;
              group = g;
              stands = s g read;
              number = f.word;
              few = omega (arith, o.word, n);
              word = omega arith;
              half = o.half;
              told = o.told;
              place = o.bit;
              bit = omega (arith, o.bit, b, fits.2);
            };
            whole = λ w. absurd (not-whole f o.number w);
          };
        }

    stored-fault : (r : Words) → IsOfWords bits 0 (program_words block i g) r
        → Answered (stored_group a.area section i g core r)
    unfolding stored_group
    stored-fault (Become vs) h = tt
    stored-fault (Refuse f) h = refused-fault g (further 1 f) (field_of_lem f h)

  abbrev IsOfRead : Result Group Fault → Type 0
  IsOfRead (Ok g) = Unit {0}
  IsOfRead (Err f) = OfItem 18 block i f

  read-fault : (w : ℕ) → IsOfRead (group_of w)
  unfolding group_of
  read-fault w = both IsOfRead (eqb (part 34 2 w) 2) (both IsOfRead (eqb (part 18 8 w) 0) whole_18 tt) whole_18

  outcome_fault : (r : Result Group Fault) → group_of (get_or block i 0) ≡ r → IsOfRead r → Answered (read_outcome a section block i core r)
  unfolding read_outcome group_outcome
  outcome_fault (Ok g) e h =
      when Answered (group_fits section block i g)
      (λ q. stored-fault g e q (changed_words a (indicator_bits_in block i g) 0 (program_words block i g))
      (words_fault a (indicator_bits_in block i g) 0 (program_words block i g)))
      (λ q. refused-fault g (fault 18) whole_18)
  outcome_fault (Err f) e h = h

  pub group_faults : IsOfGroup block i (group_step a section block i core).answer
  unfolding group_step
  group_faults = outcome_fault (group_of (get_or block i 0)) refl (read-fault (get_or block i 0))
