-- `block::check_block` meets its contract: by what is known where the pass has found a sum.
use Rattle.std.proofs.Common.{◌≡◌, ◌<◌, ℕ, List, sym, ◌∙◌, arith, rules}
use Rattle.word.specs.Limits.{words_in_block}
use Rattle.block.specs.Checksum.{checksum}
use Rattle.block.specs.Records.{checksum_place}
use Rattle.block.specs.Block.{verdict, seal_verdict}
use Rattle.block.specs.HowChecksum.{summed}
use Rattle.block.specs.declared.Record.{Record}
use Rattle.std.specs.Prelude.{Result, Ok}
use Rattle.word.specs.declared.Fault.{Fault}
use Rattle.block.proofs.Records.{place_small}
use Rattle.block.proofs.OnePass.{SumKnown, sum_known, agreed_passed, differing_refused}
use Rattle.block.proofs.check_block.Goals as goal

-- what is known from where the checksum's place is known
known : (r : Record) (block : List ℕ) (p s : ℕ) (t : Result ℕ Fault) → p ≡ checksum_place r → t ≡ summed block → t ≡ Ok s
    → (p < words_in_block) × SumKnown block p s
known r block p s t e u i =
    let k : p < words_in_block = rw e (place_small r) in
    (k, sum_known block p s k (sym u ∙ i))

pub offset_bounds-block-checksum_place : goal.offset_bounds-block-checksum_place
offset_bounds-block-checksum_place c =
    let k : c.checksum_place.result < words_in_block = rw c.checksum_place.ensures (place_small c.args.r) in
    omega arith

pub bounds-block-checksum_place : goal.bounds-block-checksum_place
bounds-block-checksum_place c =
    let k = known _ _ _ _ _ c.checksum_place.ensures c.sum_words.ensures c.in_ok-s.was in
    omega (arith, k.0, k.1.long)

pub overflow_sub-s : goal.overflow_sub-s
overflow_sub-s c =
    let k = known _ _ _ _ _ c.checksum_place.ensures c.sum_words.ensures c.in_ok-s.was in
    k.1.fits

pub returns-in_err-s : goal.returns-in_err-s
unfolding verdict seal_verdict summed
returns-in_err-s c = search rules

pub returns-then-seal_of-seal : goal.returns-then-seal_of-seal
unfolding verdict
returns-then-seal_of-seal c =
    let k = (known _ _ _ _ _ c.checksum_place.ensures c.sum_words.ensures c.in_ok-s.was).1 in
    rw (← c.checksum_place.ensures)
    (agreed_passed checksum _ _ k.whole (sym k.seal ∙ sym c.seal_of.ensures ∙ c.if-seal_of-seal.true))

pub returns-else-seal_of-seal : goal.returns-else-seal_of-seal
unfolding verdict
returns-else-seal_of-seal c =
    let k = (known _ _ _ _ _ c.checksum_place.ensures c.sum_words.ensures c.in_ok-s.was).1 in
    rw (← c.checksum_place.ensures)
    (differing_refused checksum _ _ k.whole (λ e. c.if-seal_of-seal.false (c.seal_of.ensures ∙ k.seal ∙ e)))
