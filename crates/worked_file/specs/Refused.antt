-- Files that are refused: the worked file with one word changed, now and then two, and with it the checksum of that block, and where
-- the fault is. For each refusal from 13 to 22 there is one; more show which of two faults is given, 11 and 12, and the edges of
-- rules.
use Rattle.std.specs.Prelude.{ℕ, ◌+◌, List, [], ◌∷◌, get_or, Ok, Err}
use Rattle.word.specs.declared.Fault.{Fault}
use Rattle.word.specs.declared.Half.{Half}
use Rattle.word.specs.declared.Half.TheVariants.{Left, Right}
use Rattle.word.specs.Fault.{fault, in_half, further, Verdict}
use Rattle.block.specs.Block.{verdict}
use Rattle.stage.specs.declared.Stage.TheVariants.{Broken}
use Rattle.stage.specs.Step.{StepResult}
use Rattle.stage.specs.Record.{record_due}
use Rattle.feed.specs.Block.{block_step}
use Rattle.calls.specs.declared.Answer.{Answer}
use Rattle.hand_deck.specs.Blocks.{Named, with_words}
use Rattle.demands.specs.History.{State, answer_to, call}
use Rattle.demands.specs.History.Call.{Feed}
use Rattle.demands.specs.Examples.{old}
use Rattle.worked_file.specs.Blocks.{named, worked_given, worked_file}
use Rattle.worked_file.specs.Lives.{Waiting}

-- the refusal and its place, the block that is refused, counted from 0, and the words of it that are not the worked file's
pub record Faulty : Type 0 where
  pub fault : Fault
  pub block : ℕ
  pub words : List Named

-- refusal n of word k as a whole; and of its half h, before whose indicator stand b bits of the group's
abbrev whole : ℕ → ℕ → Fault
whole n k = further k (fault n)

abbrev in_field : ℕ → ℕ → Half → ℕ → Fault
in_field n k h b = further k (in_half h b (fault n))

abbrev pub faulty_block : Faulty → List ℕ
faulty_block f = with_words f.words (get_or worked_file f.block [])

-- ---- on a desk, it is fed in the place of the worked file's own to a load that has taken every block before it. ss are the states
-- that the worked file's life leads through: before make, before open, before its first block, and so on.
abbrev pub before : List State → Faulty → State
before ss f = get_or ss (2 + f.block) old

abbrev pub answer_in : List State → Faulty → Answer
answer_in ss f = answer_to (Feed 0 0 (faulty_block f)) (before ss f)

abbrev pub core_in : List State → Faulty → List ℕ
core_in ss f = (call (Feed 0 0 (faulty_block f)) (before ss f)).core

-- ---- or to a load by itself. ws are what it waits for, block after block; 11 and 12 come first.
abbrev pub unless_bad : Verdict → StepResult → StepResult
unless_bad (Ok t) s = s
unless_bad (Err g) s = Err g

abbrev pub step_of : Waiting → List ℕ → StepResult
step_of w block = unless_bad (verdict (record_due w.stage) block) (block_step worked_given w.stage block w.core).step

abbrev pub step_in : List Waiting → Faulty → StepResult
step_in ws f = step_of (get_or ws f.block (record { stage = Broken; core = [] })) (faulty_block f)

-- one for each number
abbrev pub faulty_files : List Faulty
faulty_files =
    -- 13, "block of the wrong record": *MODRC where the first program block is due; all entries have been read
    record { fault = whole 13 0; block = 2; words = named 0 0o502224112710 ∷ named 255 0o000000331150 ∷ [] }
    -- 14, "program type flag not 001": 010, a subroutine
    ∷ record { fault = whole 14 2; block = 0; words = named 2 0o200000000000 ∷ named 254 0o000001372252 ∷ [] }
    -- 15, "The entry total must agree": 6 entries where the table words count 7
    ∷ record { fault = whole 15 3; block = 0; words = named 3 0o000004000006 ∷ named 254 0o000001272251 ∷ [] }
    -- 16, "The assigned length must be at least this": the minimum length of table 2 is 81 (octal 121), and it is assigned 80
    ∷ record { fault = whole 16 17; block = 1; words = named 17 0o777777600121 ∷ named 255 0o000001115354 ∷ [] }
    -- 17, "Both lie in the area, sharing no word with each other": the DBANK starts at 17 (octal 21), the IBANK's last word
    ∷ record { fault = whole 17 1; block = 2; words = named 2 0o000003000021 ∷ named 255 0o000000461450 ∷ [] }
    -- 18, "the words must lie in that bank": group D has two words at 17 (octal 21), where the IBANK has one
    ∷ record { fault = whole 18 1; block = 3; words = named 1 0o401402000021 ∷ named 255 0o000001225563 ∷ [] }
    -- 19, "minus with constant 0, is 19": C0 right is 0 1 0 0000010 000000
    ∷ record { fault = in_field 19 23 Right 13; block = 2; words = named 23 0o100100040200 ∷ named 255 0o000000461452 ∷ [] }
    -- 20, "no such reference": B1 right is 0 0 0000010 0000011, the length of table 3
    ∷ record { fault = in_field 20 14 Right 12; block = 2; words = named 14 0o040202000403 ∷ named 255 0o000000461455 ∷ [] }
    -- 21, "value outside 0 to 65,535": A1 right is 64,512, which is 65,536 with the area's address
    ∷ record { fault = in_field 21 7 Right 6; block = 2; words = named 7 0o123456776000 ∷ named 255 0o000000461454 ∷ [] }
    -- 22, "start not in the IBANK": 18 (octal 22), the first word after it
    ∷ record { fault = whole 22 1; block = 4; words = named 1 0o777777600022 ∷ named 255 0o000000526062 ∷ [] }
    ∷ []

-- which of two faults is given, and the edges of other rules
abbrev pub edge_files : List Faulty
edge_files =
    -- 18, "tested before any field of the group": group B goes to 13 (octal 15), past its bank, and its B1 is the one of 20
    record { fault = whole 18 12; block = 2; words = named 12 0o404406000015 ∷ named 14 0o040202000403 ∷ named 255 0o000000461465 ∷ [] }
    -- 20, "a left indicator, then a right": B1 left names table 3, and its right, with bit 15 set, would be 19
    ∷ record { fault = in_field 20 14 Left 8; block = 2; words = named 14 0o040203100401 ∷ named 255 0o000000561454 ∷ [] }
    -- 14, "Word 2 bits 35-33 are the type flag": 101
    ∷ record { fault = whole 14 2; block = 0; words = named 2 0o500000000000 ∷ named 254 0o000000672253 ∷ [] }
    -- 15, "The first is a letter or digit": a hyphen
    ∷ record { fault = whole 15 0; block = 0; words = named 0 0o412427201211 ∷ named 254 0o000001412252 ∷ named 255 0o412427201211 ∷ [] }
    -- 15, "spaces only at the end": the name has a space and then a hyphen
    ∷ record { fault = whole 15 0; block = 0; words = named 0 0o342427200541 ∷ named 254 0o000001271132 ∷ named 255 0o342427200541 ∷ [] }
    -- 15, in the name's second word: a character that is no letter, digit, hyphen or space
    ∷ record { fault = whole 15 1; block = 0; words = named 1 0o411300211205 ∷ named 254 0o000001272234 ∷ [] }
    -- 15, the space is in word 0 and the hyphen behind it in word 1: the later character is the wrong one
    ∷ record { fault = whole 15 1; block = 0; words = named 0 0o342427201205 ∷ named 254 0o000001272242 ∷ named 255 0o342427201205 ∷ [] }
    -- 15, "Types 0 and 2 together have at most 16 entries": 17 at word 5, before word 6, which does not rise
    ∷ record { fault = whole 15 5; block = 0; words = named 5 0o100000000020 ∷ named 6 0o100000000002 ∷ named 254 0o000001232271 ∷ [] }
    -- 15, word 3 counts five tables, and word 8 is of type 0 once more
    ∷ record { fault = whole 15 8; block = 0; words = named 3 0o000005000007 ∷ named 254 0o000001272253 ∷ [] }
    -- 15, "in rising order, none twice": two table words of type 2
    ∷ record { fault = whole 15 6; block = 0; words = named 6 0o100000000002 ∷ named 254 0o000001232252 ∷ [] }
    -- 15, "none with 0 entries": type 3, and the total is right
    ∷ record { fault = whole 15 6; block = 0; words = named 3 0o000004000005 ∷ named 6 0o140000000000 ∷ named 254 0o000001272246 ∷ [] }
    -- 15, "the segment count is 1": 2
    ∷ record { fault = whole 15 253; block = 0; words = named 253 0o000002000002 ∷ named 254 0o000001272253 ∷ [] }
    -- 15, "table sections are no more than core entries": 4, and 3 entries
    ∷ record { fault = whole 15 253; block = 0; words = named 253 0o000001000004 ∷ named 254 0o000001272254 ∷ [] }
    -- 15, "rest zero": bit 16 of word 253 is set
    ∷ record { fault = whole 15 253; block = 0; words = named 253 0o000001200002 ∷ named 254 0o000000472253 ∷ [] }
    -- 15, "Word 255 repeats word 0": it does not
    ∷ record { fault = whole 15 255; block = 0; words = named 254 0o000001272253 ∷ named 255 0o342427201212 ∷ [] }
    -- 16, "if the lists' counts differ from the file's": three units, and numbers for two
    ∷ record { fault = whole 16 3; block = 0; words = named 3 0o000004000010 ∷ named 6 0o140000000003 ∷ named 254 0o000001272254 ∷ [] }
    -- 16, the first table's too: the minimum length of table 0 is 9, and it is assigned 8
    ∷ record { fault = whole 16 11; block = 1; words = named 11 0o000000000011 ∷ named 255 0o000001115334 ∷ [] }
    -- 17, "bits 35, 34, 17, 16 are zero": bit 35 of the DBANK word is set
    ∷ record { fault = whole 17 1; block = 2; words = named 2 0o400003000024 ∷ named 255 0o000001061453 ∷ [] }
    -- 17, bit 16 of the DBANK word is set
    ∷ record { fault = whole 17 1; block = 2; words = named 2 0o000003200024 ∷ named 255 0o000000661453 ∷ [] }
    -- 17, "sharing no word with .. a table": the DBANK has 13 words from 20 (octal 24) on, and table 0 is at 32 (octal 40)
    ∷ record { fault = whole 17 1; block = 2; words = named 2 0o000015000024 ∷ named 255 0o000000461465 ∷ [] }
    -- 17, "Both lie in the area": the DBANK has one word at 128 (octal 200)
    ∷ record { fault = whole 17 1; block = 2; words = named 2 0o000001000200 ∷ named 255 0o000000461625 ∷ [] }
    -- 17, "a count from 1 to the assigned length": 9 words for table 0
    ∷ record { fault = whole 17 9; block = 3; words = named 9 0o200011000000 ∷ named 255 0o000001225564 ∷ [] }
    -- 17, "rising from section to section": table 0 once more
    ∷ record { fault = whole 17 14; block = 3; words = named 14 0o200010000000 ∷ named 255 0o000001225447 ∷ [] }
    -- 17, "a number with no table": 3
    ∷ record { fault = whole 17 14; block = 3; words = named 14 0o200120000003 ∷ named 255 0o000001225562 ∷ [] }
    -- 17, "bits 35-34 are 01": 11
    ∷ record { fault = whole 17 14; block = 3; words = named 14 0o600120000002 ∷ named 255 0o000001625561 ∷ [] }
    -- 17, "bits 17-8 zero": bit 8 is set
    ∷ record { fault = whole 17 14; block = 3; words = named 14 0o200120000402 ∷ named 255 0o000001226161 ∷ [] }
    -- 18, a table section word where a group is due
    ∷ record { fault = whole 18 5; block = 3; words = named 5 0o200002000000 ∷ named 255 0o000000224134 ∷ [] }
    -- 18, "bits 35-34 are 10": group E has 11
    ∷ record { fault = whole 18 5; block = 3; words = named 5 0o601402600025 ∷ named 255 0o000001425561 ∷ [] }
    -- 18, "the program words (at least 1)": group E has no words at all
    ∷ record { fault = whole 18 5; block = 3; words = named 5 0o400000600025 ∷ named 255 0o000001224157 ∷ [] }
    -- 18, "just as many indicator words as the bits need": group D has none
    ∷ record { fault = whole 18 1; block = 3; words = named 1 0o401002000017 ∷ named 255 0o000001225161 ∷ [] }
    -- 18, group G has an indicator word more than the bits need
    ∷ record { fault = whole 18 15; block = 3; words = named 15 0o401401600117 ∷ named 255 0o000001226161 ∷ [] }
    -- 18, "bit 16 .. set for the DBANK or a table section": group F has it zero
    ∷ record { fault = whole 18 10; block = 3; words = named 10 0o401402400002 ∷ named 255 0o000001025561 ∷ [] }
    -- 19, "Others are 19": D0 right has type 011
    ∷ record { fault = in_field 19 2 Right 1; block = 3; words = named 4 0o260000000000 ∷ named 255 0o000001305561 ∷ [] }
    -- 19, "left only": D0 right has type 100
    ∷ record { fault = in_field 19 2 Right 1; block = 3; words = named 4 0o300000000000 ∷ named 255 0o000001325561 ∷ [] }
    -- 19, "type 001 has bit 15 zero": B1 right has it set
    ∷ record { fault = in_field 19 14 Right 12; block = 2; words = named 14 0o040202100401 ∷ named 255 0o000000561453 ∷ [] }
    -- 19, "a constant of 64 or more": B2 right is long with 63
    ∷ record { fault = in_field 19 15 Right 20; block = 2; words = named 15 0o000077100077 ∷ named 255 0o000000417472 ∷ [] }
    -- 19, "a zero": C0 left has the second of its nine bits set
    ∷ record { fault = in_field 19 23 Left 0; block = 2; words = named 29 0o510025200252 ∷ named 255 0o000000471453 ∷ [] }
    -- 20, B1 right is 0 0 0000011 0000000, the address of table 3
    ∷ record { fault = in_field 20 14 Right 12; block = 2; words = named 14 0o040202000600 ∷ named 255 0o000000461652 ∷ [] }
    -- 20, C0 right is 0 1 0 0000011 000001, the address of table 3
    ∷ record { fault = in_field 20 23 Right 13; block = 2; words = named 23 0o100100040301 ∷ named 255 0o000000461553 ∷ [] }
    -- 20, "a number below the type 0 and 2 count": A4 left, type 100, has the number 2
    ∷ record { fault = in_field 20 10 Left 23; block = 2; words = named 10 0o000040000000 ∷ named 255 0o000000461473 ∷ [] }
    -- 20, "a number of a type 3 entry": G0 right, type 111, is 1, the channel
    ∷ record { fault = in_field 20 16 Right 1; block = 3; words = named 16 0o777777000001 ∷ named 255 0o000001225557 ∷ [] }
    -- 20, G0 right is 4, and the last reference is 3
    ∷ record { fault = in_field 20 16 Right 1; block = 3; words = named 16 0o777777000004 ∷ named 255 0o000001225562 ∷ [] }
    -- 12, "checksum word differs": the label has the one of the rule before #104, its two carries dropped
    ∷ record { fault = whole 12 0; block = 0; words = named 254 0o000001272250 ∷ [] }
    -- 11, "a word of 2^36 or more": word 18 of the modification block is 2^36
    ∷ record { fault = whole 11 0; block = 1; words = named 18 0o1000000000000 ∷ [] }
    -- 21, C2 right is the length of table 0 minus 9: below 0
    ∷ record { fault = in_field 21 25 Right 47; block = 2; words = named 25 0o100100060011 ∷ named 255 0o000000461454 ∷ [] }
    ∷ []
