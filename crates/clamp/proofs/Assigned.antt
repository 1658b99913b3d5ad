-- What assign and needs answer, packed, is what C gets back; each answer fits a number.
use Prim.Native.Nat.{ℕ, ◌<◌, ◌^◌}
use mathlib.Core.Path.{◌≡◌, sym, ap, ◌∙◌}
use mathlib.Core.List.{List}
use native.Mathlib.Omega.{arith}
use Rattle.word.specs.Fault.{half_number, Verdict}
use Rattle.word.specs.declared.Fault.{Fault}
use Rattle.std.specs.Prelude.{Result, Ok, Err}
use Rattle.calls.specs.Answer.{SmallFault, FileSmall, file_packed}
use Rattle.calls.specs.declared.files.FileAnswer.TheVariants.{Refused}
use Rattle.calls.proofs.Packed.{small_fault}
use Rattle.label.specs.Label.{Carried}
use Rattle.label.specs.declared.Label.{Label}
use Rattle.front.specs.Front.{label_block, needs_value}
use Rattle.front.proofs.Carried.{label-block-carried}
use Rattle.front.proofs.Faults.{FrontFault, label-block_faults}
use Rattle.book.specs.Assign.{assign_of, Leaves}
use Rattle.book.proofs.Faults.{every_answer}
use Rattle.clamp.specs.Returned.{needs_answer, assign_answer, AssignReturned}

front_small : (f : Fault) → FrontFault f → SmallFault f
front_small f p =
    let h = ap half_number p.half in
    (omega (arith, p.most), omega (arith, p.word))

assign_small : (book blocks io tables : List ℕ) → FileSmall (assign_answer (assign_of book blocks io tables).answer)
assign_small =
    every_answer (λ v. FileSmall (assign_answer v)) tt front_small (λ n h k. small_fault n (omega arith))

-- a refusal of it fits
pub refused_small : (book blocks io tables : List ℕ) (v : Verdict) (io' tables' : List ℕ) (f : Fault)
    → Leaves (assign_of book blocks io tables) v io' tables' → v ≡ Err f → FileSmall (Refused f)
refused_small book blocks io tables v io' tables' f m e = rw (sym m.told ∙ e) at (assign_small book blocks io tables)

pub packed_assigned : (book blocks io tables : List ℕ) (v : Verdict) (io' tables' : List ℕ) (r : ℕ)
    → Leaves (assign_of book blocks io tables) v io' tables' → r ≡ file_packed (assign_answer v)
    → AssignReturned book blocks io tables r io' tables'
packed_assigned book blocks io tables v io' tables' r m e = record {
  number = e ∙ ap (λ (u : Verdict). file_packed (assign_answer u)) m.told;
  io-left = m.io-left;
  tables-left = m.tables-left;
}

-- ---- needs
pub value_small : (l : Label) → Carried l → needs_value l < 2 ^ 32
value_small l c = omega (arith, c.io, c.core)

pub needs_small : (label : List ℕ) (r : Result Label Fault) → r ≡ label_block label → FileSmall (needs_answer r)
needs_small label (Ok l) e = value_small l (label-block-carried label l (sym e))
needs_small label (Err f) e = front_small f (label-block_faults label f (sym e))
