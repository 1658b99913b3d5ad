-- `word::bits` meets its contract: 1 shifted left by the number of bits is the power that the definition names.
use mathlib.Core.Path.{◌≡◌, ◌∙◌}
use Prim.Native.Nat.{ℕ, ◌+◌, ◌-◌, ◌*◌, ◌%◌, ◌^◌, ◌<◌, ◌≤◌}
use native.Mathlib.Nat.{one-mul}
use native.Mathlib.Omega.{arith}
use lib.Pow.{shl_exact, pow_pos}
use Rattle.word.proofs.bits.Goals as goal

-- the power, as the code makes it
mask : (n : ℕ) → n < 64 → (1 * 2 ^ n) % 2 ^ 64 ≡ 2 ^ n
mask n h =
    let l : 1 + n ≤ 64 = omega arith in
    shl_exact {a = 1} 1 n 64 (omega arith) l ∙ one-mul (2 ^ n)

pub nonzero_rem-result : goal.nonzero_rem-result
nonzero_rem-result c = rw (mask (c.args.high + 1 - c.args.low) (omega arith)) (pow_pos (c.args.high + 1 - c.args.low))

pub returns : goal.returns
returns c = rw (mask (c.args.high + 1 - c.args.low) (omega arith))
