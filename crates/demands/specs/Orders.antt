-- Events one after another, of parts that have each their own: the order of a part's own events, its answers, and all parts in
-- turn.
use Rattle.std.specs.Prelude.{ℕ, zero, suc, cond, List, [], ◌∷◌, ◌++◌, eqb}

-- the state after a list of events, one step each
unfoldable pub run {ℓ} : {S E : Type ℓ} → (E → S → S) → List E → S → S
run step [] s = s
run step (e ∷ es) s = run step es (step e s)

-- the events of part p, in their order
unfoldable pub only {ℓ} : {E : Type ℓ} → (E → ℕ) → ℕ → List E → List E
only part p [] = []
only part p (e ∷ es) = cond (eqb (part e) p) (e ∷ only part p es) (only part p es)

-- the answers to the events of part p, in their order
unfoldable pub answersOf {ℓ} : {S E A : Type ℓ} → (E → ℕ) → (E → S → S) → (E → S → A) → ℕ → List E → S → List A
answersOf part step answer p [] s = []
answersOf part step answer p (e ∷ es) s =
    cond (eqb (part e) p) (answer e s ∷ answersOf part step answer p es (step e s)) (answersOf part step answer p es (step e s))

-- the events of part 0, then those of part 1, and so on, of the first n parts
unfoldable pub in_turn {ℓ} : {E : Type ℓ} → (E → ℕ) → ℕ → List E → List E
in_turn part zero es = []
in_turn part (suc n) es = in_turn part n es ++ only part n es
