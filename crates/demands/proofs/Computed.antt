-- The hand deck by computing: its image and its start.
use Prim.Native.Nat.{ℕ, ◌+◌}
use mathlib.Core.Path.{◌≡◌, refl, ◌∙◌}
use native.Mathlib.Omega.{arith}
use mathlib.Core.List.{List, ◌∷◌, flat_map}
use lib.ListN.{replicate, get_or-replicate}
use Rattle.word.specs.Lists.{every, first_not, range, tab}
use Rattle.word.specs.Runs.{within, apart}
use Rattle.block.specs.Fieldata.{characters, spelt}
use Rattle.label.specs.Name.{is_name, first_wrong, may_stand, letter_or_digit}
use Rattle.label.specs.Tables.{table_words_in, table_words, tables_stand, first_table, table_stands, entries_of, counts_of, within_limits}
use Rattle.label.specs.Label.{label_of, finished, program_word_fits}
use Rattle.program.specs.Sections.{bank_of, segment_of, table_section_of}
use Rattle.program.specs.Groups.{group_of}
use Rattle.program.specs.Pieces.{closes, head_at, pieces_from}
use Rattle.indicator.specs.Indicator.{bits_of, indicator_bits, bits_before, number_at, indicator_at, after_field, after_word, after_all}
use Rattle.field.specs.Field.{valued, moved_field, becomes, put_back, field_change, field_step}
use Rattle.group.specs.Group.{half_step, word_step, changed_words, group_step, words_lie, address_of, indicators_fit, group_fits}
use Rattle.group.specs.Group.{refused_group, stored_group, group_outcome, read_outcome}
use Rattle.demands.specs.Image.{pieces, store_of, groups_from, up_to_last, stores_from, reached, word_from}
use Rattle.demands.specs.Image.{stores_beyond, stores_of, image_of, file_start}
use Rattle.hand_deck.specs.Blocks.{with_words, blank, deck_label, deck_program, deck_termination, deck_file}
use Rattle.demands.specs.HandDeck.{deck_given}
use Rattle.block.specs.Records.{modification, program, termination}
use Rattle.modification.specs.Assignments.{assignments_fit}
use Rattle.program.specs.Start.{in_bank}
use Rattle.stage.specs.declared.Due.TheVariants.{Segment}
use Rattle.stage.specs.declared.Stage.TheVariants.{Label, Program, Complete}
use Rattle.stage.specs.Ranges.{bank_fits}
use Rattle.stage.specs.Record.{record_due, is_over}
use Rattle.records.specs.Label.{after_label, with_label, label_step}
use Rattle.records.specs.Termination.{termination_step}
use Rattle.sections.specs.Heads.{banks_fit, with_segment, segment_step}
use Rattle.sections.specs.Program.{after_last, after_group, item_step, program_from, program_step}
use Rattle.feed.specs.Block.{due_step, block_step}
use Rattle.demands.specs.Taking.{Takes}
use Rattle.demands.proofs.Imaged.{image_is}

-- the one program word is 7, with the area's address added to its right field
pub deck_image : image_of deck_given.area deck_given.tables deck_given.ios deck_file ≡ 519 ∷ replicate 63 0
unfolding deck_label deck_program deck_termination with_words blank image_of stores_of stores_beyond label_of is_name first_wrong may_stand letter_or_digit
    every characters table_words_in table_words tables_stand first_table table_stands entries_of counts_of within_limits first_not range finished program_word_fits
    pieces pieces_from closes head_at group_of table_section_of segment_of bank_of groups_from up_to_last stores_from store_of words_lie address_of
    within changed_words word_step half_step field_step field_change becomes moved_field valued put_back bits_of flat_map indicator_bits bits_before
    number_at indicator_at after_field after_word word_from reached tab
deck_image = refl

-- "2 done 512"
pub deck_start : file_start deck_given.area deck_file ≡ record { 0 = 512 }
unfolding deck_termination with_words blank
deck_start = refl

-- ---- it is taken to its end, so that the image theorem speaks of it
abbrev core : List ℕ
core = replicate 576 0

abbrev afterwards : List ℕ
afterwards = (block_step deck_given (Program (record { channels = 0; sections = 0 }) Segment) deck_program core).core

pub deck-taken : Takes deck_given Label core deck_file Complete afterwards
unfolding deck_label deck_program deck_termination with_words blank label_of is_name first_wrong may_stand letter_or_digit every characters table_words_in
    table_words tables_stand first_table table_stands entries_of counts_of within_limits first_not tab range finished program_word_fits group_of table_section_of
    segment_of bank_of words_lie address_of within changed_words word_step half_step field_step field_change becomes moved_field valued put_back bits_of
    flat_map indicator_bits bits_before number_at indicator_at after_field after_word Takes is_over block_step due_step record_due label_step
    with_label after_label assignments_fit program_step program_from closes item_step segment_step with_segment banks_fit bank_fits apart
    after_group after_last group_step read_outcome group_outcome group_fits indicators_fit stored_group refused_group after_all
    termination_step in_bank spelt modification program termination
deck-taken = (refl, (refl, (refl, (refl, refl))))

-- so the area holds that image
pub deck-area : range afterwards 512 64 ≡ 519 ∷ replicate 63 0
unfolding every
deck-area = image_is deck_given core afterwards deck_file (omega arith) refl
    (λ k h. get_or-replicate {A = ℕ} 576 (512 + k) 0 0 (omega arith)) deck-taken ∙ deck_image
