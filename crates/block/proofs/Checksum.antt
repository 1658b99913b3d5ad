-- The checksum by one plain sum of all words, from which the checksum word is taken away again, and which is carried round
-- afterwards: for any number of words that is the sum whose every carry was added back as it arose.
use Rattle.std.proofs.Common.{◌≡◌, ℕ, zero, suc, ◌+◌, ◌-◌, ◌*◌, ◌/◌, ◌%◌, ◌^◌, ◌<◌, ◌≤◌, true, List, [], ◌∷◌, length, get_or, drop, set, sym, ap, ◌∙◌, add-zero, add_assoc, zero-add, add-one, arith, drop_of_length-le, drop-cons, drop-set-lt, ltb-true}
use lib.Seq.{take-set-le}
use Rattle.word.specs.Word.{word_limit, is_word}
use Rattle.word.specs.Lists.{every}
use Rattle.word.proofs.Cases.{by-eq}
use Rattle.word.proofs.Stretch.{every_both, every_head, every_tail}
use Rattle.block.specs.Checksum.{carried_round, added, sum_of, folded, checksum, others}
use Rattle.block.specs.HowChecksum.{total, rounds, seal_of}

word_small : (w : ℕ) → is_word w ≡ true → w < 2 ^ 36
word_small w a = ltb-true w (2 ^ 36) a

-- a turn of the loop: what was summed and what is left to sum is the whole, as far as 64 bits tell; at the end nothing is left
pub total_more : (l : List ℕ) (i s : ℕ) → i < length l → (s + total (drop i l)) % 2 ^ 64 ≡ total l % 2 ^ 64
    → ((s + get_or l i 0) % 2 ^ 64 + total (drop (i + 1) l)) % 2 ^ 64 ≡ total l % 2 ^ 64
unfolding total
total_more l i s h q = let e = ap total (drop-cons l i 0 h) in rw add-one (omega (arith, e, q))

pub total_end : (l : List ℕ) (i s : ℕ) → length l ≤ i → (s + total (drop i l)) % 2 ^ 64 ≡ total l % 2 ^ 64
    → s % 2 ^ 64 ≡ total l % 2 ^ 64
unfolding total
total_end l i s h q = let e = ap total (drop_of_length-le l h) in omega (arith, e, q)

-- the words but one are words
pub words_others : (l : List ℕ) (p : ℕ) → p < length l → every is_word l ≡ true → every is_word (others p l) ≡ true
words_others [] p h a = absurd (omega arith)
words_others (w ∷ ws) zero h a = every_tail is_word w ws a
words_others (w ∷ ws) (suc p) h a =
    rw (add-one (suc p)) (rw (add-one p) at (every_both is_word w (others p ws) (every_head is_word w ws a)
    (words_others ws p (omega arith) (every_tail is_word w ws a))))

-- they are one fewer, and do not hang on that one
pub length-others : (l : List ℕ) (p : ℕ) → p < length l → length (others p l) + 1 ≡ length l
length-others [] p h = absurd (omega arith)
length-others (w ∷ ws) zero h = omega arith
length-others (w ∷ ws) (suc p) h =
    rw (add-one (suc p)) (omega (arith, rw (add-one p) at (length-others ws p (omega arith))))

pub others-set : (l : List ℕ) (p v : ℕ) → others p (set l p v) ≡ others p l
others-set l p v = rw (take-set-le p l p v (omega arith), drop-set-lt (p + 1) l p v (omega arith))

-- the words but one, and that one
pub total-others : (l : List ℕ) (p : ℕ) → p < length l → total (others p l) + get_or l p 0 ≡ total l
unfolding total
total-others [] p h = absurd (omega arith)
total-others (w ∷ ws) zero h = omega arith
total-others (w ∷ ws) (suc p) h = rw (add-one (suc p)) (omega (arith, rw (add-one p) at (total-others ws p (omega arith))))

-- a sum of words is at most that of as many greatest words
pub total_most : (ws : List ℕ) → every is_word ws ≡ true → total ws ≤ length ws * (2 ^ 36 - 1)
unfolding total
total_most [] a = omega arith
total_most (w ∷ ws) a =
    let h = word_small w (every_head is_word w ws a) in
    let t = total_most ws (every_tail is_word w ws a) in omega arith

-- a carry that is added back gives no other
pub added_word : (s w : ℕ) → s < 2 ^ 36 → w < 2 ^ 36 → added s w < 2 ^ 36
added_word s w h k = omega arith

-- s is t, carried round: less by a multiple of 2^36 - 1, and zero only where t is
record Round (t s : ℕ) : Type 0 where
  times : ℕ
  less : t ≡ s + times * (2 ^ 36 - 1)
  zero_of_zero : s ≡ 0 → t ≡ 0

round_same : (t : ℕ) → Round t t
round_same t = record { times = 0; less = omega arith; zero_of_zero = λ e. e }

round_once : (t : ℕ) → Round t (carried_round t)
round_once t = record { times = t / word_limit; less = omega arith; zero_of_zero = λ e. omega arith }

round_then : (t s r : ℕ) → Round t s → Round s r → Round t r
round_then t s r p q = record {
  times = p.times + q.times;
  less = omega (arith, p.less, q.less);
  zero_of_zero = λ e. p.zero_of_zero (q.zero_of_zero e);
}

round_plus : (t s w : ℕ) → Round t s → Round (t + w) (s + w)
round_plus t s w p = record {
  times = p.times;
  less = omega (arith, p.less);
  zero_of_zero = λ e. let z = p.zero_of_zero (omega arith) in omega arith;
}

-- below 2^36 there is one such number
round_one : (t s r : ℕ) → Round t s → Round t r → s < 2 ^ 36 → r < 2 ^ 36 → s ≡ r
round_one t s r p q h k =
    by-eq s 0
    (λ e. let z = p.zero_of_zero e in omega (arith, q.less))
    (λ n. by-eq r 0
    (λ e. let z = q.zero_of_zero e in omega (arith, p.less))
    (λ m. omega (arith, p.less, q.less)))

-- adding back each carry as it arises is carrying the plain sum round
sum_round : (s : ℕ) (ws : List ℕ) → Round (s + total ws) (sum_of added s ws)
unfolding sum_of total
sum_round s [] = rw add-zero (round_same s)
sum_round s (w ∷ ws) =
    round_then (s + (w + total ws)) (added s w + total ws) _
    (rw (← add_assoc s w (total ws)) (round_plus (s + w) (added s w) (total ws) (round_once (s + w))))
    (sum_round (added s w) ws)

sum_word : (s : ℕ) (ws : List ℕ) → s < 2 ^ 36 → every is_word ws ≡ true → sum_of added s ws < 2 ^ 36
unfolding sum_of
sum_word s [] h a = h
sum_word s (w ∷ ws) h a =
    sum_word (added s w) ws (added_word s w h (word_small w (every_head is_word w ws a))) (every_tail is_word w ws a)

rounds_round : (n s : ℕ) → Round s (rounds n s)
unfolding rounds
rounds_round zero s = round_same s
rounds_round (suc n) s = round_then s (carried_round s) (rounds n (carried_round s)) (round_once s) (rounds_round n (carried_round s))

-- so for any number of words: summed first, and carried round afterwards until nothing runs over, they give the same sum
pub sum-after : (n s : ℕ) (ws : List ℕ) → s < 2 ^ 36 → every is_word ws ≡ true → rounds n (s + total ws) < 2 ^ 36
    → sum_of added s ws ≡ rounds n (s + total ws)
sum-after n s ws h a k =
    round_one (s + total ws) (sum_of added s ws) (rounds n (s + total ws)) (sum_round s ws) (rounds_round n (s + total ws))
    (sum_word s ws h a) k

-- there is always an end to it: a sum over 36 bits is less after a round
rounds_end : (n s : ℕ) → s < 2 ^ 36 + n → rounds n s < 2 ^ 36
unfolding rounds
rounds_end zero s h = omega arith
rounds_end (suc n) s h = rounds_end n (carried_round s) (omega arith)

pub sum_always : (s : ℕ) (ws : List ℕ) → s < 2 ^ 36 → every is_word ws ≡ true
    → sum_of added s ws ≡ rounds (s + total ws) (s + total ws)
sum_always s ws h a = sum-after (s + total ws) s ws h a (rounds_end (s + total ws) (s + total ws) (omega arith))

-- two rounds are enough for a sum of 64 bits
once_small : (s : ℕ) → s < 2 ^ 64 → carried_round s < 2 ^ 36 + 2 ^ 28
once_small s h = omega arith

twice_small : (s : ℕ) → s < 2 ^ 36 + 2 ^ 28 → carried_round s < 2 ^ 36
twice_small s h = omega arith

-- and the checksum is that of the plain sum
pub sealed_total : (ws : List ℕ) → every is_word ws ≡ true → total ws < 2 ^ 64 → seal_of (total ws) ≡ checksum ws
unfolding seal_of checksum rounds
sealed_total ws a h =
    let e = sum-after 2 0 ws (omega arith) a (rw zero-add (twice_small (carried_round (total ws)) (once_small (total ws) h))) in
    ap folded (sym (rw zero-add at e))

pub checksum_word : (ws : List ℕ) → checksum ws < 2 ^ 36
unfolding checksum
checksum_word ws = omega arith

-- "Words that sum to a multiple of 2^36-1 but are not all zero give 524,286, never 0."
pub never_0 : (ws : List ℕ) (k : ℕ) → every is_word ws ≡ true → total ws ≡ (k + 1) * (2 ^ 36 - 1) → checksum ws ≡ 524286
unfolding checksum
never_0 ws k a e =
    ap folded (round_one (total ws) (sum_of added 0 ws) (2 ^ 36 - 1) (rw zero-add at (sum_round 0 ws))
    (record { times = k; less = e ∙ omega arith; zero_of_zero = λ z. absurd (omega arith) })
    (sum_word 0 ws (omega arith) a) (omega arith))
