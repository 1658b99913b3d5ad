-- What is promised of the two rules and of resealing (specs/Promises.antt), from the laws of the checksum.
use Prim.Native.Nat.{ℕ, ◌<◌}
use mathlib.Core.Path.{◌≡◌, refl, sym, ap, ◌∙◌}
use mathlib.Core.Bool.{Bool, true, false, cond, false≢true}
use mathlib.Core.List.{List}
use mathlib.Core.Logic.{◌↔◌}
use native.Mathlib.Omega.{arith}
use lib.ListN.{length, get_or, set, length-set}
use lib.Seq.{get_or-set_same, get_or-set_other, set-set}
use lib.Dec.{eqb}
use borrow.Author.Tests.{eq-eqb, lt-ltb}
use Rattle.word.specs.Limits.{words_in_block}
use Rattle.word.specs.Word.{word_limit, is_word}
use Rattle.word.specs.Lists.{every}
use Rattle.word.specs.Fault.{fault}
use Rattle.word.proofs.Cases.{by-test, and_both, both}
use Rattle.word.proofs.Stretch.{every_set}
use Rattle.block.specs.Records.{checksum_place}
use Rattle.block.specs.Checksum.{checksum, others}
use Rattle.block.specs.Block.{whole_block, seal_verdict, verdict}
use Rattle.block.specs.declared.Record.TheVariants.{Label, Program}
use Rattle.word.specs.Fault.{pass}
use Rattle.std.specs.Prelude.{Err}
use Rattle.block.proofs.Records.{place_small}
use Rattle.block.proofs.Checksum.{words_others, length-others, others-set, checksum_word}
use Rattle.block.proofs.OnePass.{whole_long, whole_words, agreed_passed, differing_refused, passed_known}
use Rattle.old_seal.specs.OldRule.{old_checksum, carries}
use Rattle.old_seal.specs.Reseal.{seal_place, old_verdict, sealed_anew, left_by, resealed, Reseals}
use Rattle.old_seal.specs.Promises.{twelve_if_carried, OldSealMet, SealedAnew, PassesAnew, Untouched, ResealedAgain}
use Rattle.old_seal.proofs.OldRule.{rules_agree}

pub seal_place_small : (index : ℕ) → seal_place index < words_in_block
unfolding seal_place
seal_place_small index = both (λ p. p < words_in_block) (eqb index 0) (place_small Label) (place_small Program)

module _ (p : ℕ) (l : List ℕ) (small : p < words_in_block) (whole : whole_block l ≡ true) where
  -- the two rules beside each other, of the words of a block that are summed
  summed_agree : (old_checksum (others p l) ≡ checksum (others p l)) ↔ (carries 0 (others p l) ≡ false)
  summed_agree =
      let n = whole_long l whole in
      rules_agree (others p l) (words_others l p (omega arith) (whole_words l whole))
      (omega (arith, length-others l p (omega arith)))

  -- one rule's verdict of a block that has the other rule's checksum
  met : (rule : List ℕ → ℕ) → ((rule (others p l) ≡ get_or l p 0) ↔ (carries 0 (others p l) ≡ false))
      → seal_verdict rule p l ≡ twelve_if_carried p l
  met rule e = by-test (carries 0 (others p l))
      (λ q. rw q (sym (differing_refused rule p l whole (λ g. false≢true (sym (e.0 g) ∙ q)))))
      (λ q. rw q (sym (agreed_passed rule p l whole (e.1 q))))

pub old_seal_met : OldSealMet
unfolding verdict
old_seal_met r block e =
    let k = passed_known old_checksum (checksum_place r) block e in
    let a = summed_agree (checksum_place r) block (place_small r) k.0 in
    met (checksum_place r) block (place_small r) k.0 checksum
    (λ g. a.0 (k.1 ∙ sym g), λ q. sym (a.1 q) ∙ k.1)

-- ---- a block sealed anew
module _ (p : ℕ) (l : List ℕ) (small : p < words_in_block) (whole : whole_block l ≡ true) where
  anew_whole : whole_block (sealed_anew p l) ≡ true
  unfolding whole_block sealed_anew
  anew_whole =
      and_both (eqb (length (set l p (checksum (others p l)))) words_in_block) (every is_word (set l p (checksum (others p l))))
      (eq-eqb (length (set l p (checksum (others p l)))) words_in_block (length-set l p (checksum (others p l)) ∙ whole_long l whole))
      (every_set is_word l p (checksum (others p l))
      (lt-ltb (checksum (others p l)) word_limit (checksum_word (others p l))) (whole_words l whole))

  anew_others : others p (sealed_anew p l) ≡ others p l
  unfolding sealed_anew
  anew_others = others-set l p (checksum (others p l))

  anew_seal : get_or (sealed_anew p l) p 0 ≡ checksum (others p l)
  unfolding sealed_anew
  anew_seal = let n = whole_long l whole in get_or-set_same l p (checksum (others p l)) 0 (omega arith)

  sealed_anew_lem : SealedAnew p l (sealed_anew p l)
  unfolding sealed_anew
  sealed_anew_lem = record {
    passes = sym (agreed_passed checksum p (sealed_anew p l) anew_whole (ap checksum anew_others ∙ sym anew_seal));
    same_length = length-set l p (checksum (others p l));
    same_words = λ i n. get_or-set_other l p i (checksum (others p l)) 0 n;
  }

  -- by the old rule it is refused just where the two differ
  anew_met : seal_verdict old_checksum p (sealed_anew p l) ≡ twelve_if_carried p l
  anew_met =
      let a = summed_agree p l small whole in
      met p (sealed_anew p l) small anew_whole old_checksum
      (rw (anew_others, anew_seal) a)
      ∙ rw anew_others

  anew_again : sealed_anew p (sealed_anew p l) ≡ sealed_anew p l
  unfolding sealed_anew
  anew_again =
      ap (λ (ws : List ℕ). set (sealed_anew p l) p (checksum ws)) anew_others
      ∙ set-set l p (checksum (others p l)) (checksum (others p l))

-- ---- resealing
resealed_pass : (index : ℕ) (block : List ℕ) → old_verdict index block ≡ pass
    → resealed index block ≡ sealed_anew (seal_place index) block
unfolding resealed
resealed_pass index block e = rw e

pub untouched : Untouched
unfolding resealed
untouched index block f e = rw e

passed_whole : (index : ℕ) (block : List ℕ) → old_verdict index block ≡ pass → whole_block block ≡ true
unfolding old_verdict
passed_whole index block e = (passed_known old_checksum (seal_place index) block e).0

pub passes_anew : PassesAnew
passes_anew index block e =
    rw (resealed_pass index block e)
    (sealed_anew_lem (seal_place index) block (seal_place_small index) (passed_whole index block e))

-- whatever the old rule makes of a block that is sealed anew, it is left as it is
left_anew : (b : Bool) (p : ℕ) (l : List ℕ) → sealed_anew p l ≡ l → left_by (cond b (Err (fault 12)) pass) p l ≡ l
left_anew true p l e = refl
left_anew false p l e = e

pub resealed_again : ResealedAgain
unfolding old_verdict resealed
resealed_again index block e =
    let p = seal_place index in
    let w = passed_whole index block e in
    let v = anew_met p block (seal_place_small index) w in
    rw (resealed_pass index block e) (
      v,
      rw v (left_anew (carries 0 (others p block)) p (sealed_anew p block) (anew_again p block (seal_place_small index) w)),
    )

-- ---- so the ways in which the code ends
pub refused_reseals : (index : ℕ) (block : List ℕ) (n : ℕ) → Err (fault n) ≡ old_verdict index block
    → Reseals index block (Err (fault n)) block
refused_reseals index block n e = record { told = e; block-left = sym (untouched index block (fault n) (sym e)) }

pub passed_reseals : (index : ℕ) (block after : List ℕ) → pass ≡ old_verdict index block → after ≡ sealed_anew (seal_place index) block
    → Reseals index block pass after
passed_reseals index block after e a = record { told = e; block-left = a ∙ sym (resealed_pass index block (sym e)) }
