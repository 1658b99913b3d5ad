-- What is promised of the two rules and of resealing, as statements over the definitions; proofs/Promises.antt proves each.
use Rattle.std.specs.Prelude.{ℕ, ◌≤◌, ◌≡◌, true, false, cond, List, ◌↔◌, length, get_or, Err}
use Rattle.word.specs.Word.{is_word}
use Rattle.word.specs.Lists.{every}
use Rattle.word.specs.Fault.{fault, Verdict, pass}
use Rattle.block.specs.Records.{checksum_place}
use Rattle.block.specs.Checksum.{checksum, others}
use Rattle.block.specs.Block.{seal_verdict, verdict}
use Rattle.block.specs.declared.Record.{Record}
use Rattle.word.specs.declared.Fault.{Fault}
use Rattle.old_seal.specs.OldRule.{old_checksum, carries}
use Rattle.old_seal.specs.Reseal.{seal_place, old_verdict, resealed}

-- of as many words as a block sums, the two rules give one checksum just where no carry arises
abbrev pub RulesAgree : Type 0
RulesAgree = (ws : List ℕ) → every is_word ws ≡ true → length ws ≤ 255 → (old_checksum ws ≡ checksum ws) ↔ (carries 0 ws ≡ false)

-- 12 where a carry arises among the words that are summed, and no refusal where none does
abbrev pub twelve_if_carried : ℕ → List ℕ → Verdict
twelve_if_carried p block = cond (carries 0 (others p block)) (Err (fault 12)) pass

-- "An old seal meets 12 wherever the two differ": what feed's test makes of a block that the old rule passes
abbrev pub OldSealMet : Type 0
OldSealMet = (r : Record) (block : List ℕ) → seal_verdict old_checksum (checksum_place r) block ≡ pass
    → verdict r block ≡ twelve_if_carried (checksum_place r) block

-- a resealed block passes the rule in force and is otherwise the same block
pub record SealedAnew (p : ℕ) (block after : List ℕ) : Type 0 where
  pub passes : seal_verdict checksum p after ≡ pass
  pub same_length : length after ≡ length block
  pub same_words : (i : ℕ) → (i ≡ p → ⊥) → get_or after i 0 ≡ get_or block i 0

abbrev pub PassesAnew : Type 0
PassesAnew = (index : ℕ) (block : List ℕ) → old_verdict index block ≡ pass
    → SealedAnew (seal_place index) block (resealed index block)

-- a refused one is untouched
abbrev pub Untouched : Type 0
Untouched = (index : ℕ) (block : List ℕ) (f : Fault) → old_verdict index block ≡ Err f → resealed index block ≡ block

-- resealed again, a block is refused with 12 where the rules differ, and else stays as it is
abbrev pub ResealedAgain : Type 0
ResealedAgain = (index : ℕ) (block : List ℕ) → old_verdict index block ≡ pass
    → (old_verdict index (resealed index block) ≡ twelve_if_carried (seal_place index) block)
    × (resealed index (resealed index block) ≡ resealed index block)
