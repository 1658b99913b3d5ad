-- What the definitions read in the three blocks of the hand deck, by computing.
use mathlib.Core.Path.{◌≡◌, refl}
use mathlib.Core.Bool.{true, false}
use lib.ListN.{get_or}
use Rattle.word.specs.Lists.{every, first_not, tab}
use Rattle.block.specs.Fieldata.{spelt, characters}
use Rattle.block.specs.Records.{program, termination, of_record}
use Rattle.block.specs.Checksum.{sum_of, checksum}
use Rattle.word.specs.Fault.{pass}
use Rattle.block.specs.Block.{whole_block, seal_verdict, verdict}
use Rattle.block.specs.declared.Record.TheVariants.{Label, Program, Termination}
use Rattle.std.specs.Prelude.{Ok}
use Rattle.label.specs.Name.{is_name, first_wrong, may_stand, letter_or_digit}
use Rattle.label.specs.Tables.{table_words_in, table_words, tables_stand, first_table, table_stands, entries_of, counts_of, within_limits}
use Rattle.label.specs.Label.{label_of, finished, program_word_fits}
use Rattle.program.specs.Sections.{segment_of, bank_of}
use Rattle.program.specs.Groups.{group_of}
use Rattle.program.specs.Start.{start_of, in_bank}
use Rattle.hand_deck.specs.Blocks.{blank, with_words, deck_label, deck_program, deck_termination}

-- each is a block, with its checksum, of its record
pub label_sealed : verdict Label deck_label ≡ pass
unfolding deck_label with_words blank verdict seal_verdict whole_block every checksum sum_of
label_sealed = refl

pub program_sealed : verdict Program deck_program ≡ pass
unfolding deck_program with_words blank verdict seal_verdict whole_block every checksum sum_of
program_sealed = refl

pub termination_sealed : verdict Termination deck_termination ≡ pass
unfolding deck_termination with_words blank verdict seal_verdict whole_block every checksum sum_of
termination_sealed = refl

pub program_known : of_record Program deck_program ≡ true
unfolding deck_program with_words blank program spelt
program_known = refl

pub termination_known : of_record Termination deck_termination ≡ true
unfolding deck_termination with_words blank termination spelt
termination_known = refl

-- the label of a program named A: no tables, no table sections
pub label-read-whole : label_of deck_label
    ≡ Ok (record { switches = 0; channels = 0; units = 0; tables = 0; exact = false; sections = 0 })
unfolding deck_label with_words blank label_of is_name first_wrong may_stand letter_or_digit every characters
    table_words_in table_words tables_stand first_table table_stands entries_of counts_of within_limits first_not tab
    finished program_word_fits
label-read-whole = refl

-- an IBANK of one word at relative 0, no DBANK
pub segment-read-whole : segment_of (get_or deck_program 1 0) (get_or deck_program 2 0)
    ≡ Ok (record {
      ibank = record { at = record { 0 = 0 }; count = 1 };
      dbank =
          record { at = record { 0 = 0 }; count = 0 };
    })
unfolding deck_program with_words blank segment_of bank_of
segment-read-whole = refl

-- one group, the section's last: one program word at relative 0 and one indicator word
pub group_read-whole : group_of (get_or deck_program 5 0)
    ≡ Ok (record { words = 2; program = 1; last = true; ibank = true; at = record { 0 = 0 } })
unfolding deck_program with_words blank group_of
group_read-whole = refl

-- the start is relative 0, in the IBANK
pub start_in_lem : in_bank (record { at = record { 0 = 0 }; count = 1 }) (start_of deck_termination) ≡ true
unfolding deck_termination with_words blank in_bank
start_in_lem = refl
