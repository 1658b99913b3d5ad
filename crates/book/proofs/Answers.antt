-- What the calls leave, by what was seen: one law for each answer.
use Prim.Native.Nat.{ℕ, ◌*◌}
use mathlib.Core.Path.{◌≡◌, refl, sym, ◌∙◌}
use mathlib.Core.Bool.{Bool, true, false, ◌&&◌}
use mathlib.Core.List.{List}
use lib.ListN.{length}
use borrow.Author.Tests.{eq-eqb, ne_eqb}
use Rattle.word.specs.Lists.{every, every_two}
use Rattle.word.proofs.Cases.{by-test, and_left, and_right}
use Rattle.word.specs.Fault.{fault, Verdict, pass}
use Rattle.word.specs.declared.Fault.{Fault}
use Rattle.std.specs.Prelude.{Result, Ok, Err}
use Rattle.label.specs.Label.{io_count}
use Rattle.label.specs.declared.Label.{Label}
use Rattle.front.specs.Front.{front_of}
use Rattle.book.specs.Book.{is_book, assignments_of}
use Rattle.book.specs.Tags.{FileTags, file_tags}
use Rattle.book.specs.Assign.{in_file, apart_from, all_given, io_list, table_list, lists_for, fits, assign_by, assign_of, Leaves}
use Rattle.book.specs.HowKept.{not_taken}
use Rattle.book.specs.declared.Assignment.{Assignment}

-- ---- from 25 on
module _ (ts : FileTags) (rs : List Assignment) (io tables : List ℕ) where
  gives_25 : every (in_file ts) rs ≡ false → Leaves (lists_for ts rs io tables) (Err (fault 25)) io tables
  unfolding lists_for
  gives_25 p = rw p (record { told = refl; io-left = refl; tables-left = refl })

  gives_26 : every (in_file ts) rs ≡ true → every_two apart_from rs ≡ false
      → Leaves (lists_for ts rs io tables) (Err (fault 26)) io tables
  unfolding lists_for
  gives_26 p q = rw (p, q) (record { told = refl; io-left = refl; tables-left = refl })

  -- every record was taken
  module _ (b : Bool) (e : b ≡ (every (in_file ts) rs && every_two apart_from rs)) (q : b ≡ true) where
    all_in : every (in_file ts) rs ≡ true
    all_in = and_left (every (in_file ts) rs) (every_two apart_from rs) (sym e ∙ q)

    once : every_two apart_from rs ≡ true
    once = and_right (every (in_file ts) rs) (every_two apart_from rs) (sym e ∙ q)

    pub gives_27 : all_given rs ts ≡ false → Leaves (lists_for ts rs io tables) (Err (fault 27)) io tables
    unfolding lists_for
    gives_27 s = rw (all_in, once, s) (record { told = refl; io-left = refl; tables-left = refl })

    pub gives_lists : (x y : List ℕ) → all_given rs ts ≡ true → x ≡ io_list rs ts → y ≡ table_list rs ts
        → Leaves (lists_for ts rs io tables) pass x y
    unfolding lists_for
    gives_lists x y s f g = rw (all_in, once, s) (record { told = refl; io-left = f; tables-left = g })

-- not every record was taken
pub gives_25_or_26 : (ts : FileTags) (rs : List Assignment) (io tables : List ℕ) (v : Verdict)
    → (every (in_file ts) rs && every_two apart_from rs) ≡ false → v ≡ not_taken ts rs → Leaves (lists_for ts rs io tables) v io tables
unfolding not_taken
gives_25_or_26 ts rs io tables v q e = by-test (every (in_file ts) rs)
    (λ p. rw (e, p) (gives_26 ts rs io tables p (rw p at q)))
    (λ p. rw (e, p) (gives_25 ts rs io tables p))

-- ---- 24
module _ (book blocks : List ℕ) (l : Label) (io tables : List ℕ) where
  pub io_unfit : (length io ≡ io_count l → ⊥) → fits book l io tables ≡ false
  unfolding fits
  io_unfit n = rw (ne_eqb (length io) (io_count l) n)

  pub tables_unfit : length io ≡ io_count l → (length tables ≡ 2 * l.tables → ⊥) → fits book l io tables ≡ false
  unfolding fits
  tables_unfit e n = rw (eq-eqb (length io) (io_count l) e, ne_eqb (length tables) (2 * l.tables) n)

  pub book_fit : (b : Bool) → length io ≡ io_count l → length tables ≡ 2 * l.tables → b ≡ is_book book → fits book l io tables ≡ b
  unfolding fits
  book_fit b e f q = rw (eq-eqb (length io) (io_count l) e, eq-eqb (length tables) (2 * l.tables) f, ← q)

  pub gives_24 : fits book l io tables ≡ false → Leaves (assign_by book blocks (Ok l) io tables) (Err (fault 24)) io tables
  unfolding assign_by
  gives_24 p = rw p (record { told = refl; io-left = refl; tables-left = refl })

  pub gives_on : (ts : FileTags) (v : Verdict) (a b : List ℕ) → fits book l io tables ≡ true → ts ≡ file_tags blocks l
      → Leaves (lists_for ts (assignments_of book) io tables) v a b → Leaves (assign_by book blocks (Ok l) io tables) v a b
  unfolding assign_by
  gives_on ts v a b p e m = rw (p, ← e) m

-- ---- the file's
module _ (book blocks : List ℕ) (r : Result Label Fault) (io tables : List ℕ) (e : r ≡ front_of blocks) where
  pub gives-front : (v : Verdict) (a b : List ℕ) → Leaves (assign_by book blocks r io tables) v a b
      → Leaves (assign_of book blocks io tables) v a b
  unfolding assign_of
  gives-front v a b m = rw (← e) m

  pub gives-fault : (f : Fault) → r ≡ Err f → Leaves (assign_of book blocks io tables) (Err f) io tables
  unfolding assign_of assign_by
  gives-fault f q = rw (← e, q) (record { told = refl; io-left = refl; tables-left = refl })
