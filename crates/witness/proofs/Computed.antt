-- Examples that show that the demands are not vacuous: whole histories of loads on a desk of 3,653 numbers and a core of 4,096
-- words, by computing alone.
use mathlib.Core.Path.{◌≡◌, refl}
use mathlib.Core.List.{List, [], ◌∷◌, flat_map}
use Rattle.word.specs.Lists.{every, every_two, first_not, range, tab, splice, cleared}
use Rattle.word.specs.Runs.{within, apart}
use Rattle.block.specs.Fieldata.{characters, spelt}
use Rattle.block.specs.Records.{modification, program, termination}
use Rattle.block.specs.Checksum.{sum_of, checksum}
use Rattle.block.specs.Block.{whole_block, seal_verdict, verdict}
use Rattle.label.specs.Name.{is_name, first_wrong, may_stand, letter_or_digit}
use Rattle.label.specs.Tables.{table_words_in, table_words, tables_stand, first_table, table_stands, entries_of, counts_of, within_limits}
use Rattle.label.specs.Label.{label_of, finished, program_word_fits}
use Rattle.modification.specs.Assignments.{assignments_fit}
use Rattle.program.specs.Sections.{bank_of, segment_of, table_section_of}
use Rattle.program.specs.Groups.{group_of}
use Rattle.program.specs.Pieces.{closes}
use Rattle.program.specs.Start.{in_bank}
use Rattle.indicator.specs.Indicator.{bits_of, indicator_bits, bits_before, number_at, indicator_at, after_field, after_word, after_all}
use Rattle.lists.specs.Obey.{lists_obey, tables_obey, tables_of}
use Rattle.lists.specs.HowKeep.{numbers_kept, words_kept, ranks_kept, words_from, ranked}
use Rattle.sorting.specs.Sorted.{sorted}
use Rattle.lists.specs.HowKept.{numbers_in, tables_in}
use Rattle.lists.specs.Load.{ios_in, words_in, ranks_in, core_tables, io_numbers, kept_lists}
use Rattle.lists.specs.HowChain.{chain, chain_from}
use Rattle.field.specs.Field.{valued, moved_field, becomes, put_back, field_change, field_step}
use Rattle.group.specs.Group.{half_step, word_step, changed_words, words_lie, address_of, indicators_fit, group_fits, refused_group}
use Rattle.group.specs.Group.{stored_group, group_outcome, read_outcome, group_step}
use Rattle.stage.specs.Stage.{numbers_of, stage_of}
use Rattle.stage.specs.Ranges.{label_counts_fit, bank_fits, due_fits, stage_fits}
use Rattle.stage.specs.Record.{record_due, is_over}
use Rattle.records.specs.Label.{after_label, with_label, label_step}
use Rattle.records.specs.Termination.{termination_step}
use Rattle.sections.specs.Heads.{banks_fit, with_segment, segment_step}
use Rattle.sections.specs.Program.{after_last, after_group, item_step, program_from, program_step}
use Rattle.map.specs.Map.{stretch_of, map_of, in_core, stretches_apart, map_obeys}
use Rattle.rooms.specs.Rooms.{hit, count, free, held, held_each, idle, at_most, fair, place_refusal, lowest_free}
use Rattle.layout.specs.Layout.{map_numbers, holders, places, place_in, own_of, stage_in, lists_in, holds}
use Rattle.desk.specs.Sound.{area_in, counts_fit, load_fits, held_fits, place_fits, areas_apart, sound}
use Rattle.calls.specs.Entry.{entry_refusal, entered}
use Rattle.calls.specs.Make.{freed, fresh_desk, make_of}
use Rattle.calls.specs.Open.{beside_own, area_fits, opened_own, opened_place, opened_desk, opened, grant_of, open_of}
use Rattle.calls.specs.Release.{release_of}
use Rattle.feed.specs.Block.{due_step, block_step}
use Rattle.feed.specs.Feed.{load_in, staged, settled_of, taken_of, checked_of, held_of, feed_of}
use Rattle.hand_deck.specs.Blocks.{with_words, blank, deck_label, deck_program, deck_termination, deck_file}
use Rattle.demands.specs.HandDeck.{deck_given}
use Rattle.demands.specs.Image.{file_start}
use Rattle.demands.specs.Orders.{run}
use Rattle.demands.specs.History.{State, answer_to, call, Event, event, Told, told, taken, starts, is_gone}
use Rattle.demands.specs.Opening.{Opening, after_open, image_since, area_words}
use Rattle.demands.specs.Examples.{old_desk, old_core, old, one_room, two_rooms, make, answers_in, open1, fed1, deck_feeds}
use Rattle.demands.specs.Examples.{while_it_loads, NotEmpty}
use Rattle.demands.proofs.Demands.{demand_2, demand_2_start}

-- a history, with every definition that computing it opens; a proof that unfolds it opens them all
computed : List Event → List Told
unfolding every every_two first_not range tab splice cleared within apart characters spelt modification program termination sum_of checksum
    whole_block seal_verdict verdict is_name first_wrong may_stand letter_or_digit table_words_in table_words tables_stand first_table table_stands entries_of counts_of
    within_limits label_of finished program_word_fits assignments_fit bank_of segment_of table_section_of group_of in_bank bits_of flat_map
    indicator_bits bits_before number_at indicator_at after_field after_word after_all lists_obey tables_obey tables_of numbers_kept
    words_kept ranks_kept words_from sorted ranked numbers_in tables_in chain chain_from valued moved_field becomes put_back field_step field_change
    half_step word_step changed_words words_lie address_of indicators_fit group_fits refused_group stored_group group_outcome read_outcome
    group_step numbers_of stage_of label_counts_fit bank_fits due_fits stage_fits record_due is_over after_label with_label label_step
    termination_step banks_fit with_segment segment_step after_last after_group item_step closes program_from program_step stretch_of map_of
    in_core stretches_apart map_obeys hit count free held held_each idle at_most fair place_refusal lowest_free map_numbers holders places
    place_in own_of stage_in lists_in ios_in words_in ranks_in core_tables io_numbers kept_lists area_in counts_fit load_fits held_fits
    place_fits areas_apart sound freed fresh_desk make_of beside_own area_fits opened_own opened_place opened_desk opened grant_of open_of
    entry_refusal entered holds due_step block_step load_in staged settled_of taken_of checked_of held_of feed_of with_words blank deck_label
    deck_program deck_termination run answer_to call event told old_desk old_core old answers_in taken starts is_gone release_of
computed es = told es old

-- ---- what the histories lead to, each by computing
pub not_empty : NotEmpty
unfolding computed
not_empty = record {
  deck = refl;
  deck-left = refl;
  turns = refl;
  turns_left = refl;
  broken = refl;
  broken_left = refl;
  day = refl;
  day_left = refl;
  crowd = refl;
}

-- ---- so Demand 2 speaks of them: what it asks is computed, and the image is what it then says
abbrev pub opening : State → Opening
opening s = record { before = s; room = 0; area = deck_given.area; ios = []; tables = []; place = 0 }

abbrev pub deck_opening : Opening
deck_opening = opening (run event (make one_room ∷ []) old)

pub deck_demand : (area_words deck_opening (run event deck_feeds (after_open deck_opening)) ≡ image_since deck_opening deck_feeds)
    × (record { 0 = 512 } ≡ file_start deck_given.area deck_file)
unfolding computed
deck_demand = (
  demand_2 deck_opening deck_feeds (record { 0 = 512 }) [] refl refl refl refl,
  (demand_2_start deck_opening deck_feeds (record { 0 = 512 }) [] refl refl refl).0,
)

-- of room 0 on the day in which programs run while it loads: nothing that happens then does it harm
abbrev pub day_opening : Opening
day_opening = opening (run event (make two_rooms ∷ []) old)

abbrev pub after_opening : List Event
after_opening = open1 ∷ fed1 deck_label ∷ fed1 deck_program ∷ fed1 deck_termination ∷ while_it_loads

pub day_demand : area_words day_opening (run event after_opening (after_open day_opening)) ≡ image_since day_opening after_opening
unfolding computed
day_demand = demand_2 day_opening after_opening (record { 0 = 512 }) [] refl refl refl refl
