-- Every label that is accepted is within the house's limits.
use Prim.Native.Nat.{ℕ, ◌≤◌}
use mathlib.Core.Path.{◌≡◌}
use mathlib.Core.Bool.{true}
use mathlib.Core.List.{List}
use lib.ListN.{get_or}
use lib.Dec.{eqb, leb}
use borrow.Author.Tests.{leb-true}
use Rattle.word.specs.Word.{bits}
use Rattle.word.proofs.Cases.{when, and_right}
use Rattle.label.specs.Name.{is_name}
use Rattle.label.specs.Tables.{table_words, tables_stand, counts_of, within_limits}
use Rattle.label.specs.Label.{name_of, program_word_fits, total_of, finished, label_of, Carried}
use Rattle.label.proofs.Tables.{few_channels, few_io, few_tables, stand_within}
use Rattle.label.specs.declared.Counts.{Counts}
use Rattle.label.specs.declared.Label.{Label}
use Rattle.std.specs.Prelude.{Result, Ok, Err}
use Rattle.word.specs.declared.Fault.{Fault}

abbrev Holds : Result Label Fault → Type 0
Holds (Ok l) = Carried l
Holds (Err f) = Unit {0}

sections_few : (w n : ℕ) → program_word_fits w n ≡ true → bits 15 0 w ≤ n
unfolding program_word_fits
sections_few w n q =
    leb-true (bits 15 0 w) n
    (and_right (eqb (bits 33 18 w) 1) (leb (bits 15 0 w) n)
    (and_right (eqb (bits 17 16 w) 0) _ (and_right (eqb (bits 35 34 w) 0) _ q)))

finished-holds : (block : List ℕ) (c : Counts) → within_limits c ≡ true → Holds (finished block c)
unfolding finished
finished-holds block c l =
    when Holds (eqb (total_of c) (bits 10 0 (get_or block 3 0)))
    (λ _. when Holds (program_word_fits (get_or block 253 0) c.tables)
    (λ q. when Holds (eqb (get_or block 255 0) (get_or block 0 0))
    (λ _. record {
      channels = few_channels c l;
      io = few_io c l;
      core = few_tables c l;
      sections = sections_few (get_or block 253 0) c.tables q;
    })
    (λ _. tt))
    (λ _. tt))
    (λ _. tt)

label-holds : (block : List ℕ) → Holds (label_of block)
unfolding label_of
label-holds block =
    when Holds (is_name (name_of block))
    (λ _. when Holds (eqb (bits 35 33 (get_or block 2 0)) 1)
    (λ _. when Holds (tables_stand (table_words block))
    (λ q. finished-holds block (counts_of (table_words block)) (stand_within (table_words block) q))
    (λ _. tt))
    (λ _. tt))
    (λ _. tt)

pub label-carried : (block : List ℕ) (l : Label) → label_of block ≡ Ok l → Carried l
label-carried block l e = rw e at (label-holds block)
