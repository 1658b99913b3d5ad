-- A group's identifier (01, "Program blocks"): "bits 35-34 are 10, bits 33-26 the words after the identifier, bits 25-18 the
-- program words (at least 1), bit 17 set on the section's last group, bit 16 zero for the IBANK and set for the DBANK or a table
-- section, bits 15-0 the relative address". A word that is none where a group is due is refused with 18.
use Rattle.std.specs.Prelude.{ℕ, cond, eqb, Result, Ok, Err}
use Rattle.word.specs.Word.{bits, bit, is_set}
use Rattle.word.specs.Fault.{fault}
use Rattle.word.specs.declared.Fault.{Fault}
use Rattle.program.specs.declared.Group.{Group}

abbrev pub group_in : ℕ → Group
group_in w = record {
  words = bits 33 26 w;
  program = bits 25 18 w;
  last = is_set 17 w;
  ibank = eqb (bit 16 w) 0;
  at = record { 0 = bits 15 0 w };
}

unfoldable pub group_of : ℕ → Result Group Fault
group_of w =
    cond (eqb (bits 35 34 w) 2)
    (cond (eqb (bits 25 18 w) 0) (Err (fault 18)) (Ok (group_in w)))
    (Err (fault 18))
