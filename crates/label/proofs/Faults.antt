-- Every label that is refused is refused with 14 or 15, at a word of its block and at no half of one.
use Prim.Native.Nat.{ℕ, ◌+◌, ◌≤◌}
use mathlib.Core.Path.{◌≡◌, refl}
use mathlib.Core.List.{List}
use native.Mathlib.Omega.{arith}
use lib.ListN.{get_or}
use lib.Dec.{eqb}
use Rattle.word.specs.Word.{bits}
use Rattle.word.specs.Fault.{fault, further}
use Rattle.word.specs.declared.Fault.{Fault}
use Rattle.word.proofs.Cases.{both, when}
use Rattle.label.specs.Name.{is_name}
use Rattle.label.specs.Tables.{TableWord, table_words, first_table, tables_stand, table_fault, counts_of}
use Rattle.label.specs.Label.{name_of, program_word_fits, total_of, finished, label_of}
use Rattle.label.specs.declared.Counts.{Counts}
use Rattle.std.specs.Prelude.{Result, Ok, Err, None}
use Rattle.label.specs.declared.Label.{Label}
use Rattle.label.proofs.Spelt.{name_place}
use Rattle.label.proofs.Tables.{table_few}

-- a fault whose number is from `low` to `high`, of a word of its block as a whole
pub record OfWhole (low high : ℕ) (f : Fault) : Type 0 where
  pub least : low ≤ f.number
  pub most : f.number ≤ high
  pub word : f.word ≤ 255
  pub half : f.half ≡ None
  pub bit : f.bit ≡ 0

pub whole-at : (low high n k : ℕ) → low ≤ n → n ≤ high → k ≤ 255 → OfWhole low high (further k (fault n))
whole-at low high n k l h w = record { least = l; most = h; word = omega arith; half = refl; bit = refl }

pub whole-further : (k : ℕ) {low high : ℕ} {f : Fault} → k + f.word ≤ 255 → OfWhole low high f → OfWhole low high (further k f)
whole-further k h p = record { least = p.least; most = p.most; word = h; half = p.half; bit = p.bit }

pub whole_wider : (low high : ℕ) {l h : ℕ} {f : Fault} → low ≤ l → h ≤ high → OfWhole l h f → OfWhole low high f
whole_wider low high a b p =
    record { least = omega arith; most = omega arith; word = p.word; half = p.half; bit = p.bit }

abbrev Read : Result Label Fault → Type 0
Read (Ok l) = Unit {0}
Read (Err f) = OfWhole 14 15 f

of_15 : (k : ℕ) → k ≤ 255 → OfWhole 14 15 (further k (fault 15))
of_15 k h = whole-at 14 15 15 k (omega arith) (omega arith) h

finished-read : (block : List ℕ) (c : Counts) → Read (finished block c)
unfolding finished
finished-read block c =
    both Read (eqb (total_of c) (bits 10 0 (get_or block 3 0)))
    (both Read (program_word_fits (get_or block 253 0) c.tables)
    (both Read (eqb (get_or block 255 0) (get_or block 0 0)) tt (of_15 255 (omega arith)))
    (of_15 253 (omega arith)))
    (of_15 3 (omega arith))

-- a table's fault lies at word 4 to 8
in_table : (ts : List TableWord) → OfWhole 14 15 (further 4 (table_fault ts))
in_table ts =
    let h = table_few ts in
    whole-further 4 (omega arith) (of_15 (first_table ts) (omega arith))

label-read : (block : List ℕ) → Read (label_of block)
unfolding label_of
label-read block =
    when Read (is_name (name_of block))
    (λ _. both Read (eqb (bits 35 33 (get_or block 2 0)) 1)
    (both Read (tables_stand (table_words block)) (finished-read block (counts_of (table_words block)))
    (in_table (table_words block)))
    (whole-at 14 15 14 2 (omega arith) (omega arith) (omega arith)))
    (λ q. of_15 _ (omega (arith, name_place (get_or block 0 0) (get_or block 1 0) q)))

pub label_faults : (block : List ℕ) (f : Fault) → label_of block ≡ Err f → OfWhole 14 15 f
label_faults block f e = rw e at (label-read block)
