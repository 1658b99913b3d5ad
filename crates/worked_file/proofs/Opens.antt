-- What computing of files opens, once: a proof that unfolds `opens` opens all of these.
use Prim.Native.Nat.{ℕ}
use mathlib.Core.List.{flat_map}
use Rattle.word.specs.Lists.{every, every_two, first_not, range, tab, splice, cleared}
use Rattle.word.specs.Runs.{within, apart}
use Rattle.block.specs.Fieldata.{characters, spelt}
use Rattle.block.specs.Records.{modification, program, termination}
use Rattle.block.specs.Checksum.{sum_of, checksum}
use Rattle.block.specs.Block.{whole_block, seal_verdict, verdict}
use Rattle.label.specs.Name.{is_name, first_wrong, may_stand, letter_or_digit}
use Rattle.label.specs.Tables.{table_words_in, table_words, is_carried, tables_stand, first_table, table_stands, entries_of, counts_of, within_limits}
use Rattle.label.specs.Label.{label_of, finished, program_word_fits}
use Rattle.modification.specs.Assignments.{assignments_fit}
use Rattle.program.specs.Sections.{bank_of, segment_of, table_section_of}
use Rattle.program.specs.Groups.{group_of}
use Rattle.program.specs.Pieces.{closes, head_at, pieces_from}
use Rattle.program.specs.Start.{in_bank}
use Rattle.indicator.specs.Indicator.{bits_of, indicator_bits, bits_before, number_at, indicator_at, after_field, after_word, after_all}
use Rattle.field.specs.Field.{valued, plus_or_minus, moved_field, table, referred, pair, minus_zero, short, long, constant, switch}
use Rattle.field.specs.Field.{unit, becomes, put_back, field_change, field_step}
use Rattle.group.specs.Group.{half_step, word_step, changed_words, words_lie, address_of, indicators_fit, group_fits, refused_group}
use Rattle.group.specs.Group.{stored_group, group_outcome, read_outcome, group_step}
use Rattle.stage.specs.Ranges.{label_counts_fit, bank_fits, section_fits, due_fits, stage_fits}
use Rattle.stage.specs.Record.{record_due, is_over}
use Rattle.records.specs.Label.{after_label, with_label, label_step}
use Rattle.records.specs.Entries.{entry_fits, first_entry, entries_fit, after_entries, entry_step}
use Rattle.records.specs.Termination.{termination_step}
use Rattle.sections.specs.Heads.{beside_table, banks_fit, with_segment, segment_step, with_section, section_step}
use Rattle.sections.specs.Program.{after_last, after_group, item_step, program_from, program_step}
use Rattle.feed.specs.Block.{due_step, block_step}
use Rattle.lists.specs.Obey.{lists_obey, tables_obey, tables_of, table_inside, tables_apart}
use Rattle.lists.specs.HowKeep.{four_from, numbers_kept, fours_kept, has_room, has_words, words_from, words_kept, away_rank, ranked}
use Rattle.lists.specs.HowKeep.{ranks_kept}
use Rattle.sorting.specs.Sorted.{insert, sorted}
use Rattle.lists.specs.HowKept.{number_in, numbers_in, table_of, empty_in, table_by, table_at, tables_in}
use Rattle.lists.specs.Load.{ios_in, words_in, ranks_in, core_tables, io_numbers, kept_lists}
use Rattle.lists.specs.HowChain.{chain, chain_from}
use Rattle.stage.specs.Stage.{numbers_of, stage_of}
use Rattle.map.specs.Map.{stretch_of, map_of, in_core, stretches_apart, map_obeys}
use Rattle.rooms.specs.Rooms.{hit, count, free, held, held_each, idle, at_most, fair, place_refusal, lowest_free}
use Rattle.layout.specs.Layout.{map_numbers, holders, places, place_in, own_of, stage_in, lists_in, holds}
use Rattle.desk.specs.Sound.{area_in, counts_fit, load_fits, held_fits, place_fits, areas_apart, sound}
use Rattle.calls.specs.Entry.{entry_refusal, entered}
use Rattle.calls.specs.Make.{freed, fresh_desk, make_of}
use Rattle.calls.specs.Open.{beside_own, area_fits, opened_own, opened_place, opened_desk, opened, grant_of, open_of}
use Rattle.feed.specs.Feed.{load_in, staged, settled_of, taken_of, checked_of, held_of, feed_of}
use Rattle.demands.specs.Orders.{run}
use Rattle.demands.specs.History.{answer_to, call, event, told}
use Rattle.demands.specs.Examples.{old_desk, old_core, old, answers_in}
use Rattle.demands.specs.Image.{pieces, store_of, groups_from, up_to_last, stores_from, reached, word_from}
use Rattle.demands.specs.Image.{stores_beyond, stores_of, image_of}
use Rattle.demands.specs.Taking.{Takes}
use Rattle.hand_deck.specs.Blocks.{with_words, blank}
use Rattle.worked_file.specs.Blocks.{worked_label, worked_entries, worked_program, worked_sections, worked_termination}
use Rattle.worked_file.specs.Image.{worked_image}
use Rattle.worked_file.specs.Lives.{states_from, waits_from}
use Rattle.worked_file.specs.Split.{split_label, first_entries, last_entries, other_entries, split_program, split_termination}
use Rattle.worked_file.specs.Split.{split_image}

unfoldable pub opens : ℕ
unfolding flat_map every every_two first_not range tab splice cleared within apart characters spelt modification program termination sum_of
    checksum whole_block seal_verdict verdict is_name first_wrong may_stand letter_or_digit table_words_in table_words is_carried tables_stand first_table table_stands entries_of
    counts_of within_limits label_of finished program_word_fits assignments_fit bank_of segment_of table_section_of group_of in_bank bits_of
    indicator_bits bits_before number_at indicator_at after_field after_word after_all valued plus_or_minus moved_field table referred
    pair minus_zero short long constant switch unit becomes put_back field_step field_change half_step word_step changed_words words_lie address_of
    indicators_fit group_fits refused_group stored_group group_outcome read_outcome group_step label_counts_fit bank_fits section_fits
    due_fits stage_fits record_due is_over after_label with_label label_step entry_fits first_entry entries_fit after_entries entry_step
    termination_step beside_table banks_fit with_segment segment_step with_section section_step after_last after_group item_step closes
    program_from program_step due_step block_step lists_obey tables_obey tables_of table_inside tables_apart four_from numbers_kept
    fours_kept has_room has_words words_from words_kept away_rank ranked ranks_kept insert sorted number_in numbers_in table_of empty_in
    table_by table_at tables_in ios_in words_in ranks_in core_tables io_numbers kept_lists chain chain_from numbers_of stage_of stretch_of
    map_of in_core stretches_apart map_obeys hit count free held held_each idle at_most fair place_refusal lowest_free map_numbers
    holders places place_in own_of stage_in lists_in holds area_in counts_fit load_fits held_fits place_fits areas_apart sound
    entry_refusal entered freed fresh_desk make_of beside_own area_fits opened_own opened_place opened_desk opened grant_of open_of load_in
    staged settled_of taken_of checked_of held_of feed_of run answer_to call event told old_desk old_core old answers_in head_at pieces_from
    pieces store_of groups_from up_to_last stores_from reached word_from stores_beyond stores_of image_of Takes with_words blank
    worked_label worked_entries worked_program worked_sections worked_termination worked_image states_from waits_from split_label
    first_entries last_entries other_entries split_program split_termination split_image
opens = 0
