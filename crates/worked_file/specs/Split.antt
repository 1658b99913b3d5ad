-- A file with an entry that is split across two modification blocks: 85 core tables have three entry words each, 255 in all, and a
-- block holds 254. So the minimum length of the last table, number 84, is word 1 of the second block. The label's bit 35 is set,
-- so that every length must be just the minimum.
use Rattle.std.specs.Prelude.{ℕ, ◌+◌, ◌/◌, ◌%◌, cond, replicate, eqb}
use mathlib.Core.List.{List, [], ◌∷◌, ◌++◌, flat_map}
use Rattle.word.specs.Lists.{tab}
use Rattle.lists.specs.Obey.{tables_of}
use Rattle.lists.specs.Load.{Load}
use Rattle.hand_deck.specs.Blocks.{with_words, blank}
use Rattle.worked_file.specs.Blocks.{named}

abbrev pub split_count : ℕ
split_count = 85

-- table 84 has two words, each other table has one
abbrev pub split_length : ℕ → ℕ
split_length t = cond (eqb t 84) 2 1

-- the tables, address and length of each, fill the area after its first two words, which are the IBANK
abbrev pub split_tables : List ℕ
split_tables = flat_map (λ t. (0o2002 + t) ∷ split_length t ∷ []) (tab (λ t. t) split_count)

abbrev pub split_given : Load
split_given = record { area = record { at = record { 0 = 0o2000 }; size = 88 }; tables = tables_of split_tables; ios = [] }

-- the name A-Z0-9; bit 35 of word 3 and one table word; type 12 with 85 (octal 125) entries; two table sections
unfoldable pub split_label : List ℕ
split_label = with_words (
    named 0 0o064137604171
    ∷ named 1 0o050505050505
    ∷ named 2 0o100000000000
    ∷ named 3 0o400001000125
    ∷ named 4 0o600000000125
    ∷ named 253 0o000001000002
    ∷ named 254 0o000001202352
    ∷ named 255 0o064137604171
    ∷ []) blank

-- entry word k, counted from 0: of each entry the tags TAG and LTAG, and the minimum length
abbrev pub split_entry : ℕ → ℕ
split_entry k = cond (eqb (k % 3) 0) 0o310614050505 (cond (eqb (k % 3) 1) 0o213106140505 (split_length (k / 3)))

-- *MODRC, 254 entry words, the checksum
unfoldable pub first_entries : List ℕ
first_entries = 0o502224112710 ∷ tab split_entry 254 ++ (0o000000775613 ∷ [])

-- *MODRC, the last entry word, the checksum
unfoldable pub last_entries : List ℕ
last_entries = with_words (named 0 0o502224112710 ∷ named 1 0o000000000002 ∷ named 255 0o000000615136 ∷ []) blank

-- the same with a minimum length that is not the last table's
unfoldable pub other_entries : List ℕ
other_entries = with_words (named 1 0o000000000001 ∷ named 255 0o000000615135 ∷ []) last_entries

unfoldable pub split_program : List ℕ
split_program = with_words (
    -- *PRORC; IBANK: 2 words at 0; no DBANK
    named 0 0o502527242710
    ∷ named 1 0o000002000000
    -- a group: 10 00000011 00000010 1 0, address 0
    ∷ named 5 0o401402400000
    -- table 84 is 1010100. Left 0 0 0 1010100 000001: its address plus 1. Right 0 0 1 1010100 000000: its length plus 0
    ∷ named 6 0o012401032400
    -- left 0 1 1010100 1010100: its address minus its length. Right, long: its length plus 64
    ∷ named 7 0o065124100100
    -- indicators: 1010, 1010; 1001, 1010 1 0 1010100
    ∷ named 8 0o525152520000
    -- a table section: 1 word, table 83 (octal 123); its group has one word, and an indicator word that is zero
    ∷ named 9 0o200001000123
    ∷ named 10 0o401001600000
    ∷ named 11 0o701234567012
    -- a table section: 2 words, table 84; its group has one word, which goes to word 1 of the table
    ∷ named 13 0o200002000124
    ∷ named 14 0o401001600001
    ∷ named 15 0o123456701234
    ∷ named 255 0o000001166107
    ∷ []) blank

-- *TRMRC; the start is word 0
unfoldable pub split_termination : List ℕ
split_termination = with_words (named 0 0o503127222710 ∷ named 255 0o000000726037 ∷ []) blank

abbrev pub split_file : List (List ℕ)
split_file = split_label ∷ first_entries ∷ last_entries ∷ split_program ∷ split_termination ∷ []

-- in octal: table 84 is at 2002 + 124 = 2126. The first word has 2126 + 1 and 2, the second 2126 - 2 and 2 + 100; then there is
-- table 83's word, and at the end table 84's word 1
unfoldable pub split_image : List ℕ
split_image = 0o002127000002 ∷ 0o002124000102 ∷ replicate 83 0 ++ (0o701234567012 ∷ 0 ∷ 0o123456701234 ∷ [])
