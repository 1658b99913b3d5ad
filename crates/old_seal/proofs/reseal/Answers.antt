-- `old_seal::reseal` meets its contract: by what is known where the pass has found a sum.
use Prim.Native.Nat.{ℕ, ◌<◌, ◌-◌, ◌%◌, ◌^◌}
use mathlib.Core.List.{List}
use lib.ListN.{get_or}
use mathlib.Core.Path.{◌≡◌, sym, ap, ◌∙◌}
use native.Mathlib.Omega.{arith}
use Rattle.word.specs.Limits.{words_in_block}
use Rattle.block.specs.Checksum.{folded, others}
use Rattle.block.specs.HowChecksum.{summed}
use Rattle.std.specs.Prelude.{Result, Ok}
use Rattle.word.specs.declared.Fault.{Fault}
use Rattle.block.proofs.OnePass.{SumKnown, sum_known, agreed_passed, differing_refused}
use Rattle.old_seal.specs.OldRule.{old_checksum}
use Rattle.old_seal.specs.Reseal.{seal_place, old_verdict, sealed_anew, resealed}
use Rattle.block.specs.Block.{seal_verdict}
use borrow.Author.Rules.{rules}
use Rattle.old_seal.proofs.OldRule.{old-total}
use Rattle.old_seal.proofs.Promises.{seal_place_small, refused_reseals, passed_reseals}
use Rattle.old_seal.proofs.reseal.Goals as goal

-- what is known once the words are summed
known : (index : ℕ) (words : List ℕ) (p s : ℕ) (t : Result ℕ Fault) → p ≡ seal_place index → t ≡ summed words → t ≡ Ok s
    → (p < words_in_block) × SumKnown words p s
known index words p s t e u i =
    let k : p < words_in_block = rw e (seal_place_small index) in
    (k, sum_known words p s k (sym u ∙ i))

-- the old rule's checksum of the others
old : (words : List ℕ) (p s o : ℕ) → SumKnown words p s → o ≡ folded ((s - get_or words p 0) % 2 ^ 36)
    → o ≡ old_checksum (others p words)
old words p s o k e = e ∙ ap (λ (n : ℕ). folded (n % 2 ^ 36)) k.rest ∙ old-total _

pub offset_bounds-words-p : goal.offset_bounds-words-p
offset_bounds-words-p c =
    let k = known _ _ _ _ _ c.seal_place-p.ensures c.sum_words.ensures c.in_ok-s.was in
    omega (arith, k.0)

pub bounds-words-p : goal.bounds-words-p
bounds-words-p c =
    let k = known _ _ _ _ _ c.seal_place-p.ensures c.sum_words.ensures c.in_ok-s.was in
    omega (arith, k.0, k.1.long)

pub overflow_sub-others : goal.overflow_sub-others
overflow_sub-others c =
    let k = known _ _ _ _ _ c.seal_place-p.ensures c.sum_words.ensures c.in_ok-s.was in
    k.1.fits

pub returns-then-old-seal : goal.returns-then-old-seal
unfolding old_verdict
returns-then-old-seal c =
    let k = known _ _ _ _ _ c.seal_place-p.ensures c.sum_words.ensures c.in_ok-s.was in
    refused_reseals _ _ 12
    (rw (← c.seal_place-p.ensures)
    (differing_refused old_checksum _ _ k.1.whole (λ e. c.if-old-seal.true (old _ _ _ _ k.1 c.fold-old.ensures ∙ e))))

pub offset_bounds-words-p-2 : goal.offset_bounds-words-p-2
offset_bounds-words-p-2 c =
    let k = known _ _ _ _ _ c.seal_place-p.ensures c.sum_words.ensures c.in_ok-s.was in
    omega (arith, k.0)

pub bounds-words-p-2 : goal.bounds-words-p-2
bounds-words-p-2 c =
    let k = known _ _ _ _ _ c.seal_place-p.ensures c.sum_words.ensures c.in_ok-s.was in
    omega (arith, k.0, k.1.long)

pub returns-in_err-s : goal.returns-in_err-s
unfolding old_verdict seal_verdict summed resealed
returns-in_err-s c = record { told = search rules; block-left = search rules }

pub returns : goal.returns
unfolding old_verdict sealed_anew
returns c =
    let k = known _ _ _ _ _ c.seal_place-p.ensures c.sum_words.ensures c.in_ok-s.was in
    passed_reseals _ _ _
    (rw (← c.seal_place-p.ensures)
    (agreed_passed old_checksum _ _ k.1.whole (sym (old _ _ _ _ k.1 c.fold-old.ensures) ∙ c.if-old-seal.false)))
    (rw (← c.seal_place-p.ensures)
    (rw (c.seal_of-new.ensures, k.1.seal)))
