-- The two rules beside each other, by the plain sum of the words: the old one keeps what stands below 2^36 of it, the one in force
-- adds back what stands above. So they differ as soon as anything does.
use Prim.Native.Nat.{ℕ, ◌+◌, ◌-◌, ◌*◌, ◌/◌, ◌%◌, ◌^◌, ◌≤◌, ◌<◌}
use mathlib.Core.Path.{◌≡◌, sym, ap, ◌∙◌}
use mathlib.Core.Bool.{true, false}
use mathlib.Core.List.{List, [], ◌∷◌}
use native.Mathlib.Omega.{arith}
use native.Mathlib.Nat.{zero-add}
use lib.ListN.{length}
use lib.Dec.{leb}
use borrow.Author.Tests.{le-leb, lt-leb, leb-false}
use Rattle.word.specs.Word.{word_limit, is_word}
use Rattle.word.specs.Lists.{every}
use Rattle.word.proofs.Cases.{by-lt}
use Rattle.word.proofs.Stretch.{every_tail}
use Rattle.block.specs.Checksum.{carried_round, added, sum_of, folded, checksum}
use Rattle.block.specs.HowChecksum.{total, seal_of}
use Rattle.block.proofs.Checksum.{total_most, sealed_total}
use Rattle.old_seal.specs.OldRule.{old_added, old_checksum, carries}
use Rattle.old_seal.specs.Promises.{RulesAgree}

-- dropping each carry is dropping them all at the end
old-sum : (s : ℕ) (ws : List ℕ) → s < 2 ^ 36 → sum_of old_added s ws ≡ (s + total ws) % 2 ^ 36
unfolding sum_of total
old-sum s [] h = omega arith
old-sum s (w ∷ ws) h = old-sum (old_added s w) ws (omega arith) ∙ omega arith

pub old-total : (ws : List ℕ) → folded (total ws % 2 ^ 36) ≡ old_checksum ws
unfolding old_checksum
old-total ws = ap folded (sym (old-sum 0 ws (omega arith) ∙ omega arith))

-- a carry arises just where the plain sum is over 36 bits
carried-sum : (s : ℕ) (ws : List ℕ) → s < 2 ^ 36 → every is_word ws ≡ true → carries s ws ≡ leb word_limit (s + total ws)
unfolding carries total
carried-sum s [] h a = sym (lt-leb word_limit (s + 0) (omega arith))
carried-sum s (w ∷ ws) h a =
    by-lt (s + w) word_limit
    (λ k.
    let e : added s w ≡ s + w = omega arith in
    let d : s + w + total ws ≡ s + (w + total ws) = omega arith in
    rw (lt-leb word_limit (s + w) k, e, ← d) (carried-sum (s + w) ws k (every_tail is_word w ws a)))
    (λ k. rw (le-leb word_limit (s + w) k, le-leb word_limit (s + (w + total ws)) (omega arith)))

pub carries-total : (ws : List ℕ) → every is_word ws ≡ true → carries 0 ws ≡ leb word_limit (total ws)
carries-total ws a = rw zero-add at (carried-sum 0 ws (omega arith) a)

-- without a carry the plain sum is the sum of either rule
round_small : (t : ℕ) → t < 2 ^ 36 → carried_round t ≡ t
round_small t h = omega arith

cut_small : (t : ℕ) → t < 2 ^ 36 → t % 2 ^ 36 ≡ t
cut_small t h = omega arith

sealed_small : (t : ℕ) → t < 2 ^ 36 → seal_of t ≡ folded (t % 2 ^ 36)
unfolding seal_of
sealed_small t h = ap (λ (s : ℕ). folded (carried_round s)) (round_small t h) ∙ ap folded (round_small t h ∙ sym (cut_small t h))

-- the two halves of a sum, added, are the sum less a multiple of 2^18 - 1
fold_less : (s : ℕ) → s < 2 ^ 36 → folded s + s / 2 ^ 18 * (2 ^ 18 - 1) ≡ s
fold_less s h = omega arith

-- so they differ where sums differ by fewer than 2^18 - 1, by a multiple of it more or less: 2^36 - 1 is one
differs : (o c f p q : ℕ) → f + p * (2 ^ 18 - 1) ≡ o + c → f + q * (2 ^ 18 - 1) ≡ o → 1 ≤ c → c < 2 ^ 18 - 1 → ⊥
differs o c f p q e g h k = omega arith

differs_round : (o c m f p q : ℕ) → m + 2 ^ 36 ≡ o + c + 1 → f + p * (2 ^ 18 - 1) ≡ m → f + q * (2 ^ 18 - 1) ≡ o → 1 ≤ c
    → c < 2 ^ 18 - 1 → ⊥
differs_round o c m f p q d e g h k = omega arith

module _ (o c : ℕ) (h : o < 2 ^ 36) (k : 1 ≤ c) (l : c < 2 ^ 18 - 1) where
  fold_moves : o + c < 2 ^ 36 → folded (o + c) ≡ folded o → ⊥
  fold_moves m e =
      differs o c (folded o) ((o + c) / 2 ^ 18) (o / 2 ^ 18) (rw e at (fold_less (o + c) m)) (fold_less o h) k l

  fold_falls : (m : ℕ) → m < 2 ^ 36 → m + 2 ^ 36 ≡ o + c + 1 → folded m ≡ folded o → ⊥
  fold_falls m n d e =
      differs_round o c m (folded o) (m / 2 ^ 18) (o / 2 ^ 18) d (rw e at (fold_less m n)) (fold_less o h) k l

-- with up to 254 carries the two checksums differ
round_large : (s : ℕ) → 2 ^ 36 ≤ s → s < 2 ^ 37 - 1 → carried_round s + 2 ^ 36 ≡ s + 1
round_large s h k = omega arith

carry_count : (t : ℕ) → 2 ^ 36 ≤ t → t ≤ 255 * (2 ^ 36 - 1) → (t % 2 ^ 36 < 2 ^ 36) × ((1 ≤ t / 2 ^ 36) × (t / 2 ^ 36 < 256))
carry_count t h k = (omega arith, (omega arith, omega arith))

sealed_large : (t : ℕ) → 2 ^ 36 ≤ t → t ≤ 255 * (2 ^ 36 - 1) → seal_of t ≡ folded (t % 2 ^ 36) → ⊥
unfolding seal_of
sealed_large t h k e =
    let n = carry_count t h k in
    large (t % 2 ^ 36) (t / 2 ^ 36) n.0 n.1.0 n.1.1 e
  where
    large : (o c : ℕ) → o < 2 ^ 36 → 1 ≤ c → c < 256 → folded (carried_round (o + c)) ≡ folded o → ⊥
    large o c a b d g =
        by-lt (o + c) (2 ^ 36)
        (λ m. fold_moves o c a b (omega arith) m (sym (ap folded (round_small (o + c) m)) ∙ g))
        (λ m.
        let r = round_large (o + c) m (omega arith) in
        fold_falls o c a b (omega arith) (carried_round (o + c)) (omega arith) r g)

-- of as many words as a block sums, the two rules give one checksum just where no carry arises
pub rules_agree : RulesAgree
rules_agree ws a l = (differing, agreeing)
  where
    m : total ws ≤ length ws * (2 ^ 36 - 1)
    m = total_most ws a

    sealed : seal_of (total ws) ≡ checksum ws
    sealed = sealed_total ws a (omega (arith, m))

    differing : old_checksum ws ≡ checksum ws → carries 0 ws ≡ false
    differing e = carries-total ws a ∙ by-lt (total ws) word_limit
        (λ k. lt-leb word_limit (total ws) k)
        (λ k. absurd (sealed_large (total ws) k (omega (arith, m)) (sealed ∙ sym e ∙ sym (old-total ws))))

    agreeing : carries 0 ws ≡ false → old_checksum ws ≡ checksum ws
    agreeing e =
        sym (old-total ws) ∙ sym (sealed_small (total ws) (leb-false word_limit (total ws) (sym (carries-total ws a) ∙ e))) ∙ sealed
