-- A book record by record: what its records say in order, their bytes one by one, and that a number of six digits is small.
use Prim.Native.Nat.{ℕ, suc, ◌+◌, ◌-◌, ◌*◌, ◌%◌, ◌^◌, ◌≤◌, ◌<◌}
use mathlib.Core.Path.{◌≡◌, refl, sym, ◌∙◌}
use mathlib.Core.Bool.{true}
use mathlib.Core.List.{List, [], ◌∷◌}
use native.Mathlib.Omega.{arith}
use native.Mathlib.Nat.{pow-le-pow_right, mul-le-mul_left}
use native.Mathlib.Numerals.{add-one}
use lib.Pow.{pow-add}
use lib.Seq.{drop-cons}
use lib.ListN.{length, get_or, drop, drop_of_length-le}
use lib.Dec.{eqb, leb}
use borrow.Author.Tests.{leb-true}
use Rattle.std.specs.Prelude.{Some}
use Rattle.word.specs.Lists.{every, tab}
use Rattle.word.proofs.Cases.{and_left, and_right}
use Rattle.word.proofs.Every.{every-place}
use Rattle.word.proofs.Lists.{length-tab, get_d_tab, length-range_most}
use Rattle.block.specs.Fieldata.{spelt}
use Rattle.book.specs.Book.{record_bytes, is_kind, kind_of, is_code, is_digit, record_at, codes_in, digits_in, is_record, decimal}
use Rattle.book.specs.Book.{assignment_of, record_count, assignments_of, all_records, is_book}
use Rattle.book.specs.Assign.{no_assignment}
use Rattle.book.specs.HowKept.{kind_read, spelled, Spells}

-- ---- what the records of a book say, in order
pub length-assignments : (book : List ℕ) → length (assignments_of book) ≡ record_count book
unfolding assignments_of
length-assignments book = length-tab _ (record_count book)

pub assignment_at : (book : List ℕ) (i : ℕ) → i < record_count book
    → get_or (assignments_of book) i no_assignment ≡ assignment_of (record_at book i)
unfolding assignments_of
assignment_at book i h = get_d_tab (λ j. assignment_of (record_at book j)) (record_count book) i no_assignment h

-- ---- a record of a book
pub book_record : (book : List ℕ) (i : ℕ) → is_book book ≡ true → i * 14 + 14 ≤ length book → is_record (record_at book i) ≡ true
unfolding is_book all_records
book_record book i q h =
    let k : i < record_count book = omega arith in
    let l = length-tab (record_at book) (record_count book) in
    rw (get_d_tab (record_at book) (record_count book) i [] k) at
    (every-place [] is_record (tab (record_at book) (record_count book)) i (omega arith)
    (and_right (eqb (length book % record_bytes) 0) _ q))

pub record_digits : (bytes : List ℕ) → is_record bytes ≡ true → every is_digit (digits_in bytes) ≡ true
unfolding is_record
record_digits bytes q =
    and_left (every is_digit (digits_in bytes)) _
    (and_right (every is_code (codes_in bytes)) _ (and_right (is_kind (get_or bytes 0 0)) _ q))

-- ---- k digits spell a number below 10^k
decimal_below : (k n : ℕ) (ds : List ℕ) → every is_digit ds ≡ true → n < 10 ^ k → decimal n ds < 10 ^ (k + length ds)
unfolding decimal every
decimal_below k n [] q h = let e : k + 0 ≡ k = omega arith in rw e h
decimal_below k n (d ∷ ds) q h =
    let e : k + suc (length ds) ≡ k + 1 + length ds = omega arith in
    let m = leb-true d 57 (and_right (leb 48 d) (leb d 57) (and_left (is_digit d) (every is_digit ds) q)) in
    rw e
    (decimal_below (k + 1) (n * 10 + (d - 48)) ds (and_right (is_digit d) (every is_digit ds) q)
    (rw (pow-add 10 k 1) (omega arith)))

pub number_small : (bytes : List ℕ) → is_record bytes ≡ true → (assignment_of bytes).number < 2 ^ 32
unfolding assignment_of
number_small bytes q =
    let l = length-range_most bytes 7 6 in
    omega (
      arith,
      pow-le-pow_right {n = 10} (omega arith) {i = 0 + length (digits_in bytes)} {j = 6} (omega arith),
      decimal_below 0 0 (digits_in bytes) (record_digits bytes q) (omega arith),
    )

-- ---- a record as it is read: its letter is a kind's, and its digits are digits
pub kind_is : (bytes : List ℕ) → is_record bytes ≡ true → kind_read (get_or bytes 0 0) ≡ Some (kind_of (get_or bytes 0 0))
unfolding is_record
kind_is bytes q = rw (and_left (is_kind (get_or bytes 0 0)) _ q)

pub digits_spell : (bytes : List ℕ) → is_record bytes ≡ true → Spells 10 48 (digits_in bytes)
digits_spell bytes q = record {
  small = omega arith;
  few = omega (arith, length-range_most bytes 7 6);
  digits = λ k h. leb-true 48 (get_or (digits_in bytes) k 0)
      (and_left (leb 48 (get_or (digits_in bytes) k 0)) _ (every-place 0 is_digit (digits_in bytes) k h (record_digits bytes q)));
}

pub tag_spelled : (n : ℕ) (bs : List ℕ) → spelled 64 0 n bs ≡ spelt n bs
unfolding spelled spelt
tag_spelled n [] = refl
tag_spelled n (b ∷ bs) = let e : b - 0 ≡ b = omega arith in rw e (tag_spelled (n * 64 + b) bs)

pub number_spelled : (n : ℕ) (bs : List ℕ) → spelled 10 48 n bs ≡ decimal n bs
unfolding spelled decimal
number_spelled n [] = refl
number_spelled n (b ∷ bs) = number_spelled (n * 10 + (b - 48)) bs

-- ---- the loop that spells: byte i is taken, and the number is still below 256^(i + 1)
module _ (base low n : ℕ) (bs : List ℕ) (i : ℕ) where
  pub spell_more : (m : ℕ) → i < length bs → m ≡ spelled base low n (drop i bs)
      → m ≡ spelled base low (n * base + (get_or bs i 0 - low)) (drop (i + 1) bs)
  unfolding spelled
  spell_more m h q = q ∙ rw (add-one, drop-cons bs i 0 h)

  pub spell_end : (m : ℕ) → length bs ≤ i → m ≡ spelled base low n (drop i bs) → n ≡ m
  unfolding spelled
  spell_end m h q = sym (rw (drop_of_length-le bs {i = i} h) at q)

module _ (base n d i : ℕ) (small : base ≤ 256) (h : n < 256 ^ i) (k : d < 256) where
  pub spell_below : n * base + d < 256 ^ (i + 1)
  spell_below = let m = mul-le-mul_left n small in rw (pow-add 256 i 1) (omega arith)

  pub spell_fits : i < 8 → n * base + d < 2 ^ 64
  spell_fits l = omega (arith, spell_below, pow-le-pow_right {n = 256} (omega arith) {i = i + 1} {j = 8} (omega arith))
