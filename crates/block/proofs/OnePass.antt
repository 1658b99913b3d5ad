-- What the one pass over a block tells: how it ends, what is known of a block whose words were summed, and the verdict from there.
use Rattle.std.proofs.Common.{◌≡◌, ℕ, ◌-◌, ◌%◌, ◌^◌, ◌<◌, ◌≤◌, true, false, eqb, List, length, get_or, sym, ◌∙◌, arith, eq-eqb, ne_eqb, eqb-true}
use Rattle.word.specs.Limits.{words_in_block}
use Rattle.word.specs.Word.{is_word}
use Rattle.word.specs.Lists.{every}
use Rattle.word.specs.Fault.{fault, Verdict, pass}
use Rattle.word.proofs.Cases.{by-test, when, and_left, and_right}
use Rattle.block.specs.Checksum.{checksum, others, agrees}
use Rattle.block.specs.Block.{whole_block, seal_verdict}
use Rattle.block.specs.HowChecksum.{total, summed, seal_of}
use Rattle.std.specs.Prelude.{Result, Ok, Err}
use Rattle.word.specs.declared.Fault.{Fault}
use Rattle.block.proofs.Checksum.{total-others, total_most, words_others, sealed_total}

pub summed-none : (l : List ℕ) → length l ≡ words_in_block → every is_word l ≡ false → Err (fault 11) ≡ summed l
unfolding summed whole_block
summed-none l e a = rw (eq-eqb (length l) words_in_block e, a)

pub summed-sum : (l : List ℕ) (s : ℕ) → length l ≡ words_in_block → every is_word l ≡ true → s < 2 ^ 64
    → s % 2 ^ 64 ≡ total l % 2 ^ 64 → Ok s ≡ summed l
unfolding summed whole_block
summed-sum l s e a h q =
    let m = total_most l a in
    let t : s ≡ total l = omega arith in
    rw (eq-eqb (length l) words_in_block e, a, t)

-- a whole block: of its length, and of words
pub whole_long : (l : List ℕ) → whole_block l ≡ true → length l ≡ words_in_block
unfolding whole_block
whole_long l w = eqb-true (length l) words_in_block (and_left (eqb (length l) words_in_block) (every is_word l) w)

pub whole_words : (l : List ℕ) → whole_block l ≡ true → every is_word l ≡ true
unfolding whole_block
whole_words l w = and_right (eqb (length l) words_in_block) (every is_word l) w

-- where the words were summed they are a block; the word at place p is not above the sum, and what is left without it is the plain
-- sum of the others, whose checksum it gives
pub record SumKnown (l : List ℕ) (p s : ℕ) : Type 0 where
  pub whole : whole_block l ≡ true
  pub long : length l ≡ words_in_block
  pub fits : get_or l p 0 ≤ s
  pub rest : s - get_or l p 0 ≡ total (others p l)
  pub seal : seal_of (s - get_or l p 0) ≡ checksum (others p l)

no_sum : (s n : ℕ) → ◌≡◌ {A = Result ℕ Fault} (Err (fault n)) (Ok s) → ⊥
no_sum s n e = let z : ◌≡◌ {A = ℕ} 0 1 = cc in omega arith

sum_same : (s t : ℕ) → ◌≡◌ {A = Result ℕ Fault} (Ok s) (Ok t) → s ≡ t
sum_same s t e = cc

pub sum_known : (l : List ℕ) (p s : ℕ) → p < words_in_block → summed l ≡ Ok s → SumKnown l p s
unfolding summed
sum_known l p s h e = by-test (whole_block l)
    (λ q.
    let long = whole_long l q in
    let words = whole_words l q in
    let t : total l ≡ s = sum_same (total l) s (rw q at e) in
    let o = total-others l p (omega arith) in
    let r : s - get_or l p 0 ≡ total (others p l) = omega arith in
    let m = total_most l words in record {
      whole = q;
      long = long;
      fits = omega arith;
      rest = r;
      seal = rw r (sealed_total (others p l) (words_others l p (omega arith) words) (omega arith));
    })
    (λ q. absurd (no_sum s 11 (rw q at e)))

no_pass : (n : ℕ) → ◌≡◌ {A = Verdict} (Err (fault n)) pass → ⊥
no_pass n e = let z : ◌≡◌ {A = ℕ} 0 1 = cc in omega arith

-- so a block's verdict, by a rule for the checksum
module _ (checksumOf : List ℕ → ℕ) (p : ℕ) (l : List ℕ) where
  pub none-refused : summed l ≡ Err (fault 11) → Err (fault 11) ≡ seal_verdict checksumOf p l
  unfolding summed seal_verdict
  none-refused e = by-test (whole_block l) (λ q. absurd (no_sum (total l) 11 (sym e ∙ rw q))) (λ q. rw q)

  pub agreed_passed : whole_block l ≡ true → checksumOf (others p l) ≡ get_or l p 0 → pass ≡ seal_verdict checksumOf p l
  unfolding seal_verdict
  agreed_passed w e = rw (w, eq-eqb (checksumOf (others p l)) (get_or l p 0) e)

  pub differing_refused : whole_block l ≡ true → (checksumOf (others p l) ≡ get_or l p 0 → ⊥)
      → Err (fault 12) ≡ seal_verdict checksumOf p l
  unfolding seal_verdict
  differing_refused w n = rw (w, ne_eqb (checksumOf (others p l)) (get_or l p 0) n)

  -- its cases: it passes, or is refused with 11 or 12
  pub seal-cases {ℓ} : (P : Verdict → Type ℓ) → (whole_block l ≡ true → checksumOf (others p l) ≡ get_or l p 0 → P pass)
      → P (Err (fault 11)) → P (Err (fault 12)) → P (seal_verdict checksumOf p l)
  unfolding seal_verdict
  seal-cases P pass eleven twelve =
      when P (whole_block l)
      (λ w. when P (agrees checksumOf p l)
      (λ a. pass w (eqb-true (checksumOf (others p l)) (get_or l p 0) a))
      (λ a. twelve))
      (λ w. eleven)

  pub passed_known : seal_verdict checksumOf p l ≡ pass → (whole_block l ≡ true) × (checksumOf (others p l) ≡ get_or l p 0)
  passed_known =
      seal-cases (λ v. v ≡ pass → (whole_block l ≡ true) × (checksumOf (others p l) ≡ get_or l p 0))
      (λ w a e. (w, a))
      (λ e. absurd (no_pass 11 e))
      (λ e. absurd (no_pass 12 e))
