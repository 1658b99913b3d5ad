-- The law of a fault's place passed up: two steps up are one.
use Prim.Native.Nat.{ℕ, ◌+◌}
use mathlib.Core.Path.{◌≡◌, ap}
use native.Mathlib.Omega.{arith}
use Rattle.word.specs.declared.Fault.{Fault}
use Rattle.word.specs.Fault.{further}

-- the word of a fault told by a number
counted : (f : Fault) {m n : ℕ} → m ≡ n → ◌≡◌ {A = Fault} (record { number = f.number; word = m; half = f.half; bit = f.bit })
    (record { number = f.number; word = n; half = f.half; bit = f.bit })
counted f e = ap (λ (n : ℕ). record { number = f.number; word = n; half = f.half; bit = f.bit }) e

pub further_twice : (j k : ℕ) (f : Fault) → further j (further k f) ≡ further (j + k) f
further_twice j k f = counted f (omega arith)

pub further-none : (f : Fault) → further 0 f ≡ f
further-none f = counted f (omega arith)
