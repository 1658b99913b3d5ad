-- The worked file: a program file in five blocks with something of all that 01 carries. A jump switch, a channel, two units; three
-- core tables, one of them empty; an IBANK and a DBANK; two table sections; every type of change in both halves where it is
-- carried, short and long, plus and minus, of an address and of a length; a section that runs on into a second block; a later
-- group over an earlier one; a spare indicator bit that is set. Words that are not named are zero. docs/FORMAT.md says how the
-- bits of a word are cut.
use Rattle.std.specs.Prelude.{ℕ, List, [], ◌∷◌}
use Rattle.lists.specs.Obey.{tables_of}
use Rattle.lists.specs.Load.{Load}
use Rattle.hand_deck.specs.Blocks.{Named, with_words, blank}

-- ---- what it is loaded with: 128 words of core at octal 2000

-- the I/O numbers: 5 for the jump switch, 12 (octal 14) for the channel, octal 42 and 65,535 for the two units
abbrev pub worked_ios : List ℕ
worked_ios = 5 ∷ 0o14 ∷ 0o42 ∷ 0o177777 ∷ []

-- the core tables, address and length: 8 words at octal 2040; none, at the area's end; and 80 words (octal 120) at octal 2060
abbrev pub worked_tables : List ℕ
worked_tables = 0o2040 ∷ 0o10 ∷ 0o2200 ∷ 0 ∷ 0o2060 ∷ 0o120 ∷ []

abbrev pub worked_given : Load
worked_given = record {
  area = record { at = record { 0 = 0o2000 }; size = 0o200 };
  tables = tables_of worked_tables;
  ios = worked_ios;
}

-- ---- its blocks

-- word k of a block is w
abbrev pub named : ℕ → ℕ → Named
named k w = record { at = k; word = w }

-- ---- the label
unfoldable pub worked_label : List ℕ
worked_label = with_words (
    -- words 0 and 1: the name WORKED-FILE in Fieldata, and a space
    named 0 0o342427201211
    ∷ named 1 0o411316211205
    -- word 2: bits 35-33 = 001, the type flag
    ∷ named 2 0o100000000000
    -- word 3: bit 35 = 0, longer tables are allowed; bits 28-18 = 4 table words; bits 10-0 = 7 entries, 1 + 1 + 2 + 3
    ∷ named 3 0o000004000007
    -- words 4 to 7: bits 35-32 the type, bits 8-0 the entries. Type 0, a jump switch (I/O reference 0); type 2, a channel (1);
    -- type 3, two units (2 and 3); type 12, three core tables (0, 1 and 2)
    ∷ named 4 0o000000000001
    ∷ named 5 0o100000000001
    ∷ named 6 0o140000000002
    ∷ named 7 0o600000000003
    -- word 253: 1 segment, 2 table sections
    ∷ named 253 0o000001000002
    -- word 254: the checksum. Word 255: word 0 again
    ∷ named 254 0o000001272252
    ∷ named 255 0o342427201211
    ∷ []) blank

-- ---- the modification block
unfoldable pub worked_entries : List ℕ
worked_entries = with_words (
    -- *MODRC
    named 0 0o502224112710
    -- the entries of the jump switch JUMP, the channel CHAN and the units TAPEA and TAPEB, two words each: the tag, and a
    -- word that is disregarded
    ∷ named 1 0o173222250505
    ∷ named 2 0o000040000001
    ∷ named 3 0o101506230505
    ∷ named 4 0o000040000002
    ∷ named 5 0o310625120605
    ∷ named 6 0o000000000002
    ∷ named 7 0o310625120705
    ∷ named 8 0o000000000003
    -- table 0, LIST, three words: two tags, and the minimum length 8; it is assigned as many
    ∷ named 9 0o211630310505
    ∷ named 10 0o212116303105
    ∷ named 11 0o000000000010
    -- table 1, NONE: the minimum length is 0, and it is assigned 0 words
    ∷ named 12 0o232423120505
    ∷ named 13 0o212324231205
    ∷ named 14 0o000000000000
    -- table 2, POOL: bits 15-0 of the third word are the minimum length, 64; it is assigned 80. The other bits are disregarded,
    -- and all set
    ∷ named 15 0o252424210505
    ∷ named 16 0o212524242105
    ∷ named 17 0o777777600100
    -- after the last entry: disregarded
    ∷ named 18 0o777777777777
    -- the checksum
    ∷ named 255 0o000001115333
    ∷ []) blank

-- ---- the first program block: the segment section, as far as its group C
unfoldable pub worked_program : List ℕ
worked_program = with_words (
    -- *PRORC
    named 0 0o502527242710
    -- the segment section. IBANK: 18 (octal 22) words at 0. DBANK: 3 words at 20 (octal 24). Two words that are disregarded
    ∷ named 1 0o000022000000
    ∷ named 2 0o000003000024
    ∷ named 3 0o777777777777
    ∷ named 4 0o123456701234
    -- group A: 10 00000110 00000101 0 0, address 0: 6 words, 5 of them program words; not the last group; IBANK
    ∷ named 5 0o403005000000
    -- A0 left 600004: type 000, 4; bits 35-34 stay set. Right 777777: no change
    ∷ named 6 0o600004777777
    -- A1 left 123456: no change. Right 775777: type 000, 64,511; bits 17-16 stay set
    ∷ named 7 0o123456775777
    -- A2 left 777417: type 100, bits 25-22 = 0000, the jump switch; all other bits are set. Right 000002: type 111, TAPEA
    ∷ named 8 0o777417000002
    -- A3 left 000003: type 111, TAPEB. Right 654321: no change
    ∷ named 9 0o000003654321
    -- A4 left 000020: type 100, bits 25-22 = 0001, the channel. Right 000000: type 000, 0
    ∷ named 10 0o000020000000
    -- the indicators of A, a left and a right one for each word, 31 bits, and 5 spare ones, the last of which is set:
    -- A0 1000, 0; A1 0, 1000; A2 1100, 1111; A3 1111, 0; A4 1100, 1000; 00001
    ∷ named 11 0o404317754401
    -- group B: 10 00001001 00000110 0 0, address 5: 9 words, 6 of them program words; IBANK
    ∷ named 12 0o404406000005
    -- B0 type 001, 0 M aaaaaaa lllllll, plus and minus; bits 35 and 16 are set.
    -- Left 0 0 0000000 0000010: address of table 0 plus length of table 2. Right 0 1 0000010 0000000: address of table 2 minus
    -- length of table 0
    ∷ named 13 0o400002240400
    -- B1 the other way round.
    -- Left 0 1 0000001 0000010: address of table 1 minus length of table 2. Right 0 0 0000010 0000001: address of table 2 plus
    -- length of table 1, which is empty
    ∷ named 14 0o040202000401
    -- B2 left type 010 short, 0 M L nnnnnnn cccccc; right type 010 long, 1 M cccccccccccccc, whose L and number stand in the
    -- indicator. Left 0 0 0 0000000 111111: address of table 0 plus 63. Right: address of table 2 minus 1072 (octal 2060)
    ∷ named 15 0o000077142060
    -- B3 left 0 1 0 0000010 111111: address of table 2 minus 63. Right: address of table 1 plus 16,383, the most that 14 bits
    -- can be
    ∷ named 16 0o040277137777
    -- B4 left 0 0 1 0000010 000101: length of table 2 plus 5. Right: length of table 2 minus 64, the least that is written long
    ∷ named 17 0o020205140100
    -- B5 left 0 1 1 0000010 111111: length of table 2 minus 63. Right: length of table 0 plus 1000 (octal 1750)
    ∷ named 18 0o060277101750
    -- the indicators of B, 84 bits. The last word is read first; of a long type 010 they are 1010 L 0 nnnnnnn:
    -- word 21: B0 1001, 1001; B1 1001, 1001; B2 1010, 1010 0 0 0000010; B3 101
    -- word 20: 0, 1010 0 0 0000001; B4 1010, 1010 1 0 0000010; B5 1010, 1
    -- word 19: 010 1 0 0000000; 24 spare bits
    ∷ named 19 0o240000000000
    ∷ named 20 0o240032520125
    ∷ named 21 0o463146520025
    -- group C: 10 00000111 00000101 0 0, address 11 (octal 13): 7 words, 5 of them program words; IBANK
    ∷ named 22 0o403405000013
    -- C0 left long, right short. Left: address of table 0 plus 64. Right 0 1 0 0000010 000001: address of table 2 minus 1
    ∷ named 23 0o100100040201
    -- C1 left: address of table 2 minus 100 (octal 144). Right 0 0 0 0000001 000000: address of table 1 plus 0
    ∷ named 24 0o140144000100
    -- C2 left: length of table 2 plus 64. Right 0 1 1 0000000 001000: length of table 0 minus 8
    ∷ named 25 0o100100060010
    -- C3 left: length of table 2 minus 65. Right 0 0 1 0000001 001001: length of table 1 plus 9
    ∷ named 26 0o140101020111
    -- C4 no change, whatever bit 15 of its fields; a later group goes over this word
    ∷ named 27 0o333333444444
    -- the indicators of C, 70 bits, and 2 spare ones, of which one is set:
    -- word 29: C0 1010 0 0 0000000, 1010; C1 1010 0 0 0000010, 1010; C2 10
    -- word 28: 10 1 0 0000010, 1010; C3 1010 1 0 0000010, 1010; C4 0, 0; 01
    ∷ named 28 0o500525201241
    ∷ named 29 0o500025200252
    -- a zero word where a group is due closes the block, and what stands after it is disregarded
    ∷ named 30 0o000000000000
    ∷ named 31 0o777777777777
    -- the checksum
    ∷ named 255 0o000000461453
    ∷ []) blank

-- ---- the second program block: the rest of the segment section, and the two table sections
unfoldable pub worked_sections : List ℕ
worked_sections = with_words (
    -- *PRORC
    named 0 0o502527242710
    -- group D, still of the segment section: 10 00000011 00000010 0 0, address 15 (octal 17): 3 words, 2 of them program words;
    -- IBANK. Its first word goes where C4 went
    ∷ named 1 0o401402000017
    -- D0 right 000021: type 000. D1: no change
    ∷ named 2 0o000000000021
    ∷ named 3 0o444444555555
    -- the indicators of D: D0 0, 1000; D1 0, 0
    ∷ named 4 0o200000000000
    -- group E: 10 00000011 00000010 1 1, address 21 (octal 25), counted from the Program Name: the section's last group; DBANK
    ∷ named 5 0o401402600025
    -- E0 left 000025: type 000. E1: no change
    ∷ named 6 0o000025001234
    ∷ named 7 0o701234567012
    -- the indicators of E: E0 1000, 0; E1 0, 0
    ∷ named 8 0o400000000000
    -- a table section: 01, 6 words, bits 17-8 zero, table 0
    ∷ named 9 0o200006000000
    -- group F: 10 00000011 00000010 1 1, address 2, counted from the table's first word
    ∷ named 10 0o401402600002
    -- F0 left 0 0 1 0000000 000000: type 010 short, length of table 0 plus 0. Right 000007: type 000, the area's address and not
    -- the table's. F1: no change
    ∷ named 11 0o020000000007
    ∷ named 12 0o707070707070
    -- the indicators of F: F0 1010, 1000; F1 0, 0
    ∷ named 13 0o520000000000
    -- a table section: 01, 80 (octal 120) words, table 2. Table 1 is passed over
    ∷ named 14 0o200120000002
    -- group G: 10 00000010 00000001 1 1, address 79 (octal 117): the last word of the table, which is the last one of the area
    ∷ named 15 0o401001600117
    -- G0 left: no change. Right 000003: type 111, reference 3, TAPEB
    ∷ named 16 0o777777000003
    -- the indicators of G: G0 0, 1111
    ∷ named 17 0o360000000000
    -- after the last section's last group: disregarded
    ∷ named 18 0o777777777777
    -- the checksum
    ∷ named 255 0o000001225561
    ∷ []) blank

-- ---- the termination block
unfoldable pub worked_termination : List ℕ
worked_termination = with_words (
    -- *TRMRC
    named 0 0o503127222710
    -- bits 15-0 the start, 17 (octal 21): the IBANK's last word. The other bits are disregarded, and all set
    ∷ named 1 0o777777600021
    -- the checksum
    ∷ named 255 0o000000526061
    ∷ []) blank

abbrev pub worked_file : List (List ℕ)
worked_file = worked_label ∷ worked_entries ∷ worked_program ∷ worked_sections ∷ worked_termination ∷ []
