-- A core whose area is set to zero is the same, whatever stood in the area.
use Prim.Native.Nat.{ℕ, ◌+◌, ◌-◌, ◌≤◌, ◌<◌}
use mathlib.Core.Path.{◌≡◌, refl, sym, ap, ◌∙◌}
use mathlib.Core.Logic.{inl, inr}
use mathlib.Core.List.{List}
use native.Mathlib.Omega.{arith}
use lib.ListN.{length, get_or, replicate, length-replicate, get_or-replicate}
use lib.Seq.{ext_get_or}
use Rattle.word.specs.Lists.{cleared}
use Rattle.word.specs.declared.Area.{Area}
use Rattle.std.specs.Prelude.{Ok, Err}
use Rattle.stage.specs.Step.{StepResult}
use Rattle.stage.specs.declared.Step.TheVariants.{More, Done}
use Rattle.feed.specs.Feed.{settled_of}
use Rattle.word.proofs.Cases.{by-lt}
use Rattle.word.proofs.Lists.{get_d_splice_in}
use Rattle.word.proofs.Stretch.{Beside, length-cleared, get_d_cleared_beside}

-- inside it is zero
pub get_d_cleared_in : (l : List ℕ) (a n i : ℕ) → a + n ≤ length l → a ≤ i → i < a + n → get_or (cleared l a n) i 0 ≡ 0
unfolding cleared
get_d_cleared_in l a n i h k m =
    let e : a + (i - a) ≡ i = omega arith in
    let v = get_d_splice_in l a (replicate n 0) (i - a) (rw length-replicate (omega arith)) (rw length-replicate h) in
    ap (λ (j : ℕ). get_or (cleared l a n) j 0) (sym e) ∙ v ∙ get_or-replicate n (i - a) 0 0 (omega arith)

pub wiped-same : (core after : List ℕ) (a n : ℕ) → a + n ≤ length core → length after ≡ length core
    → ((j : ℕ) → Beside j a n → get_or after j 0 ≡ get_or core j 0) → cleared after a n ≡ cleared core a n
wiped-same core after a n h e b =
    let x = length-cleared after a n (omega arith) in
    let y = length-cleared core a n h in
    ext_get_or 0 (cleared after a n) (cleared core a n) (x ∙ e ∙ sym y)
    (λ j k. by-lt j a
    (λ u. get_d_cleared_beside after a n j (omega arith) (inl u) ∙ b j (inl u) ∙ sym (get_d_cleared_beside core a n j h (inl u)))
    (λ u. by-lt j (a + n)
    (λ w. get_d_cleared_in after a n j (omega arith) u w ∙ sym (get_d_cleared_in core a n j h u w))
    (λ w. get_d_cleared_beside after a n j (omega arith) (inr w) ∙ b j (inr w) ∙ sym (get_d_cleared_beside core a n j h (inr w)))))

-- so what a step leads to is the same, whether the core before the block or after it is wiped
pub settled_same : (d core after : List ℕ) (p : ℕ) (area : Area) (r : StepResult) → area.at.0 + area.size ≤ length core
    → length after ≡ length core
    → ((j : ℕ) → Beside j area.at.0 area.size → get_or after j 0 ≡ get_or core j 0)
    → settled_of d after p area r after ≡ settled_of d core p area r after
unfolding settled_of
settled_same d core after p area (Ok (More s)) h e b = refl
settled_same d core after p area (Ok (Done a)) h e b = refl
settled_same d core after p area (Err f) h e b = rw (wiped-same core after area.at.0 area.size h e b)
