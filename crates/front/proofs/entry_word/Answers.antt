-- `front::entry_word` meets its contract: the word at the entry word's spot.
use mathlib.Core.Path.{ap, ◌∙◌}
use Prim.Native.Nat.{◌+◌, ◌*◌}
use lib.ListN.{get_or}
use Rattle.word.specs.Limits.{words_in_block}
use Rattle.modification.specs.declared.Spot.{Spot}
use Rattle.front.specs.Front.{entry_word}
use native.Mathlib.Omega.{arith}
use Rattle.front.proofs.entry_word.Goals as goal

pub overflow_add-s : goal.overflow_add-s
overflow_add-s c =
    let b = ap (λ (s : Spot). s.block) c.spot_of-s.ensures in
    let w = ap (λ (s : Spot). s.word) c.spot_of-s.ensures in
    omega arith

pub overflow_mul-s : goal.overflow_mul-s
overflow_mul-s c =
    let b = ap (λ (s : Spot). s.block) c.spot_of-s.ensures in
    let w = ap (λ (s : Spot). s.word) c.spot_of-s.ensures in
    omega arith

pub overflow_add-s-2 : goal.overflow_add-s-2
overflow_add-s-2 c =
    let b = ap (λ (s : Spot). s.block) c.spot_of-s.ensures in
    let w = ap (λ (s : Spot). s.word) c.spot_of-s.ensures in
    omega arith

pub returns : goal.returns
unfolding entry_word
returns c =
    c.word_at.ensures
    ∙ ap (λ (s : Spot). get_or c.args.blocks.now (words_in_block * (1 + s.block) + s.word) 0)
    c.spot_of-s.ensures
