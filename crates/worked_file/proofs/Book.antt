-- The worked file assigned by a book, by computing.
use Prim.Native.Nat.{ℕ}
use mathlib.Core.Path.{refl}
use Rattle.word.specs.Lists.{every, every_two, first_not, range, tab}
use Rattle.block.specs.Fieldata.{characters, spelt}
use Rattle.block.specs.Records.{modification}
use Rattle.block.specs.Checksum.{sum_of, checksum}
use Rattle.block.specs.Block.{whole_block, seal_verdict, verdict}
use Rattle.label.specs.Name.{is_name, first_wrong, may_stand, letter_or_digit}
use Rattle.label.specs.Tables.{table_words_in, table_words, is_carried, tables_stand, first_table, table_stands, entries_of, counts_of}
use Rattle.label.specs.Tables.{within_limits}
use Rattle.label.specs.Label.{label_of, finished, program_word_fits}
use Rattle.front.specs.Front.{label_block, block_at, modification_at, modifications_to, over_at, behind_label, front_of, entry_word}
use Rattle.book.specs.Book.{is_kind, record_at, is_record, decimal, assignment_of, assignments_of, all_records, is_book}
use Rattle.book.specs.Tags.{tag_of, tags_of}
use Rattle.book.specs.Assign.{is_for, place_of, in_file, apart_from, record_for, is_given, all_given, number_for, io_list, table_list}
use Rattle.book.specs.Assign.{lists_for, fits, assign_by, assign_of}
use Rattle.hand_deck.specs.Blocks.{with_words, blank}
use Rattle.worked_file.specs.Blocks.{worked_label, worked_entries}
use Rattle.worked_file.specs.Book.{worked_book, worked_front, shared_front}
use Rattle.worked_file.specs.Worked.{WorkedAssigned, SharedAssigned, WrongBooks, WrongFronts, WrongLists, WorkedNeeds}

-- what computing by a book opens
unfoldable books : ℕ
unfolding every every_two first_not range tab characters spelt modification sum_of checksum whole_block seal_verdict verdict is_name
    first_wrong may_stand letter_or_digit table_words_in table_words is_carried tables_stand first_table table_stands entries_of
    counts_of within_limits label_of finished program_word_fits label_block block_at modification_at modifications_to over_at
    behind_label front_of entry_word is_kind record_at is_record decimal assignment_of assignments_of all_records is_book tag_of tags_of
    is_for place_of in_file apart_from record_for is_given all_given number_for io_list table_list lists_for fits assign_by assign_of
    with_words blank worked_label worked_entries worked_book worked_front shared_front
books = 0

pub worked_assigned : WorkedAssigned
unfolding books
worked_assigned = refl

pub shared_assigned : SharedAssigned
unfolding books
shared_assigned = refl

pub wrong_books_lem : WrongBooks
unfolding books
wrong_books_lem = refl

pub wrong_fronts_lem : WrongFronts
unfolding books
wrong_fronts_lem = refl

pub wrong_lists : WrongLists
unfolding books
wrong_lists = (refl, refl)

pub worked_needs : WorkedNeeds
unfolding books
worked_needs = refl
