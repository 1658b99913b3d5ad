-- Refusals 1, 2 and 4: what is known where none is due, and the cases of a call that tests them.
use Prim.Native.Nat.{ℕ, ◌≤◌}
use mathlib.Core.Path.{◌≡◌, refl, sym, ◌∙◌}
use mathlib.Core.Bool.{true}
use mathlib.Core.List.{List}
use native.Mathlib.Omega.{arith}
use lib.Dec.{eqb, ltb}
use lib.ListN.{length}
use borrow.Author.Tests.{eq-eqb, ne_eqb, lt-ltb, eqb-true, eqb-false, ltb-true}
use Rattle.std.specs.Prelude.{Ok, Err}
use Rattle.word.specs.declared.Fault.{Fault}
use Rattle.word.specs.Fault.{fault, numbered, unless}
use Rattle.word.specs.Limits.{room_count}
use Rattle.word.proofs.Cases.{by-test, by-eq, when}
use Rattle.layout.specs.Layout.{core_length, desk_words}
use Rattle.desk.specs.Sound.{sound}
use Rattle.desk.proofs.Facts.{sound-long}
use Rattle.calls.specs.declared.Answer.TheVariants.{Refused}
use Rattle.calls.specs.Outcome.{Outcome, Meets, refused}
use Rattle.calls.specs.Entry.{entry_refusal, entered, Entered}

-- ---- a desk that is sound has its length, so its numbers can be read
pub long_sound : (d : List ℕ) → sound d ≡ true → length d ≡ desk_words
long_sound = sound-long

-- ---- a test that tells its refusal by its number: it passed, or was refused with f
pub passed : (n : ℕ) (u : Unit {0}) → Ok u ≡ numbered n → n ≡ 0
passed n u q = by-eq n 0 (λ z. z) (λ z. let e = rw (ne_eqb n 0 z) at q in cc)

pub not_passed : (n : ℕ) (f : Fault) → Err f ≡ numbered n → (f ≡ fault n) × (n ≡ 0 → ⊥)
not_passed n f q = by-eq n 0
    (λ z. let e = rw (eq-eqb n 0 z) at q in cc)
    (λ z. let e = rw (ne_eqb n 0 z) at q in (cc, z))

-- ---- refusals 1, 2 and 4
module _ (d : List ℕ) (n r : ℕ) where
  entry_none : Entered d n r → entry_refusal d n r ≡ 0
  unfolding entry_refusal
  entry_none k = rw (k.desk, eq-eqb n (core_length d) k.core, lt-ltb r room_count k.room)

  abbrev Tells : ℕ → Type 0
  Tells m = (m ≤ 4) × (m ≡ 0 → Entered d n r)

  entry_tells : Tells (entry_refusal d n r)
  unfolding entry_refusal
  entry_tells =
      when Tells (sound d)
      (λ s. when Tells (eqb n (core_length d))
      (λ e. when Tells (ltb r room_count)
      (λ h. (omega arith, λ z. record { desk = s; core = eqb-true n (core_length d) e; room = ltb-true r room_count h }))
      (λ h. (omega arith, λ z. absurd (omega arith))))
      (λ e. (omega arith, λ z. absurd (omega arith))))
      (λ s. (omega arith, λ z. absurd (omega arith)))

  pub entry_shows : (m : ℕ) → m ≡ entry_refusal d n r → m ≡ 0 → Entered d n r
  entry_shows m q z = entry_tells.1 (sym q ∙ z)

  -- the same by what the code answers
  pub entry_passed : (u : Unit {0}) → Ok u ≡ numbered (entry_refusal d n r) → Entered d n r
  entry_passed u q = entry_tells.1 (passed (entry_refusal d n r) u q)

  module _ (core : List ℕ) (rest : Outcome) where
    pub entered-refused : (f : Fault) → Err f ≡ numbered (entry_refusal d n r) → Meets (entered d n r core rest) (Refused f) d core
    unfolding entered
    entered-refused f q =
        let k = not_passed (entry_refusal d n r) f q in
        rw (k.0, ne_eqb (entry_refusal d n r) 0 k.1) (record { told = refl; desk_left = refl; core-left = refl })

    pub entered_on : Entered d n r → entered d n r core rest ≡ rest
    unfolding entered
    entered_on k = rw (entry_none k)

    -- where 1 and 2 are not due, 4 or the rest
    pub entered_room : sound d ≡ true → n ≡ core_length d
        → entered d n r core rest ≡ unless (ltb r room_count) (refused 4 d core) rest
    unfolding entered entry_refusal
    entered_room s e = rw (s, eq-eqb n (core_length d) e) (by-test (ltb r room_count) (λ q. rw q) (λ q. rw q))

    -- what holds of each refusal of the three, and of the rest where none is due, holds of the whole
    pub entered-cases : (P : Outcome → Type 0) → ((m : ℕ) → 1 ≤ m → m ≤ 4 → P (refused m d core))
        → (Entered d n r → P rest) → P (entered d n r core rest)
    unfolding entered
    entered-cases P none on =
        when P (eqb (entry_refusal d n r) 0)
        (λ q. on (entry_tells.1 (eqb-true (entry_refusal d n r) 0 q)))
        (λ q. none (entry_refusal d n r) (omega (arith, eqb-false (entry_refusal d n r) 0 q)) entry_tells.0)
