-- The test of the first numbers of a kept list, and that these are the first of them all.
use Rattle.std.proofs.Common.{◌≡◌, ℕ, zero, suc, ◌≤◌, Bool, ◌&&◌, List, [], ◌∷◌, ◌++◌, map, take, refl, ap, ◌∙◌, add-one, zero-add}
use Rattle.std.specs.List.{list_all, range_with_len}
use Rattle.std.proofs.lemmas.List.FromFn.{map-range_with_len_more}
use Rattle.word.specs.Lists.{every, tab}
use Rattle.word.proofs.Lists.{take-tab}
use Rattle.lists.specs.HowKept.{number_in, numbers_in}
use Rattle.modification.specs.Assignments.{is_channel}

every_map : (p : ℕ → Bool) (f : ℕ → ℕ) (l : List ℕ) → list_all (λ (k : ℕ). p (f k)) l ≡ every p (map f l)
unfolding every
every_map p f [] = refl
every_map p f (k ∷ l) = ap (λ (b : Bool). p (f k) && b) (every_map p f l)

range_tab : (f : ℕ → ℕ) (n : ℕ) → map f (range_with_len 0 n) ≡ tab f n
unfolding tab
range_tab f zero = refl
range_tab f (suc n) =
    rw add-one at (map-range_with_len_more f 0 n n (zero-add n)) ∙ ap (λ (l : List ℕ). l ++ (f n ∷ [])) (range_tab f n)

pub channels_all : (ws : List ℕ) (m : ℕ)
    → list_all (λ (k : ℕ). is_channel (number_in ws k)) (range_with_len 0 m) ≡ every is_channel (numbers_in ws m)
unfolding numbers_in
channels_all ws m =
    every_map is_channel (number_in ws) (range_with_len 0 m) ∙ ap (every is_channel) (range_tab (number_in ws) m)

pub take-numbers : (ws : List ℕ) (m n : ℕ) → m ≤ n → take m (numbers_in ws n) ≡ numbers_in ws m
unfolding numbers_in
take-numbers ws m n h = take-tab (number_in ws) m n h
