-- What reseal leaves, its answer packed, is what C gets back; the answer fits a number, as its refusals are 11 and 12.
use Prim.Native.Nat.{ℕ}
use mathlib.Core.Path.{◌≡◌, ap, ◌∙◌}
use mathlib.Core.List.{List}
use native.Mathlib.Omega.{arith}
use Rattle.word.specs.Fault.{Verdict}
use Rattle.block.proofs.OnePass.{seal-cases}
use Rattle.calls.specs.Answer.{FileSmall, file_packed}
use Rattle.calls.proofs.Packed.{small_fault}
use Rattle.old_seal.specs.OldRule.{old_checksum}
use Rattle.old_seal.specs.Reseal.{seal_place, old_verdict, Reseals}
use Rattle.clamp.specs.Returned.{reseal_answer, ResealReturned}

pub reseal_small : (index : ℕ) (block : List ℕ) → FileSmall (reseal_answer (old_verdict index block))
unfolding old_verdict
reseal_small index block =
    seal-cases old_checksum (seal_place index) block (λ v. FileSmall (reseal_answer v)) (λ w a. tt)
    (small_fault 11 (omega arith)) (small_fault 12 (omega arith))

pub packed-resealed : (index : ℕ) (block : List ℕ) (v : Verdict) (after : List ℕ) (r : ℕ) → Reseals index block v after
    → r ≡ file_packed (reseal_answer v) → ResealReturned index block r after
packed-resealed index block v after r m e =
    record { number = e ∙ ap (λ (u : Verdict). file_packed (reseal_answer u)) m.told; block-left = m.block-left }
