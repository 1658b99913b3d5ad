-- The lists are written from the marks of each kind, which are all there and as many as the lists need.
use Prim.Native.Nat.{ℕ}
use mathlib.Core.Path.{◌≡◌, sym, ◌∙◌}
use mathlib.Core.Bool.{true}
use mathlib.Core.List.{List}
use native.Mathlib.Omega.{arith}
use lib.ListN.{length}
use Rattle.word.specs.Lists.{every}
use Rattle.word.proofs.Cases.{and_left, and_right}
use Rattle.label.specs.declared.Label.{Label}
use Rattle.book.specs.HowKept.{kept_of, is_mark, all_marked, FillReady, PairsReady}
use Rattle.book.specs.declared.Kind.{Kind}
use Rattle.book.specs.declared.Kind.TheVariants.{Address, Length, Peripheral}
use Rattle.book.proofs.Kept.{kept-long}

module _ (marks : List ℕ) (l : Label) (io tables : List ℕ) (p : FillReady marks l io tables) where
  all_of : (k : Kind) → every is_mark (kept_of marks l k) ≡ true
  unfolding all_marked
  all_of Peripheral = and_left (every is_mark (kept_of marks l Peripheral)) _ p.all
  all_of Address =
      and_left (every is_mark (kept_of marks l Address)) _ (and_right (every is_mark (kept_of marks l Peripheral)) _ p.all)
  all_of Length =
      and_right (every is_mark (kept_of marks l Address)) _ (and_right (every is_mark (kept_of marks l Peripheral)) _ p.all)

  pub io_ready : (ms : List ℕ) → ms ≡ kept_of marks l Peripheral → (length io ≡ length ms) × (every is_mark ms ≡ true)
  io_ready ms e = rw e (p.io-long ∙ sym (kept-long marks l p.long p.carried Peripheral), all_of Peripheral)

  pub pairs_ready : (xs ys : List ℕ) → xs ≡ kept_of marks l Address → ys ≡ kept_of marks l Length → PairsReady xs ys tables
  pairs_ready xs ys e f =
      let u = kept-long marks l p.long p.carried Address in
      let v = kept-long marks l p.long p.carried Length in
      let n = p.tables-long in
      rw (e, f) (record { rows = omega arith; long = omega arith; first = all_of Address; second = all_of Length })
