-- The three blocks of the hand deck, as 01 lists them; unnamed words are zero. Of the program block 01 has the checksum
-- 000001146450: with the carry added back (#104) "the hand deck's program block ends 000001146451".
use Rattle.std.specs.Prelude.{ℕ, List, [], ◌∷◌, set, replicate}
use Rattle.word.specs.Limits.{words_in_block}

-- a word of a block: its number and its value
pub record Named : Type 0 where
  pub at : ℕ
  pub word : ℕ

-- a block with these words
unfoldable pub with_words : List Named → List ℕ → List ℕ
with_words [] block = block
with_words (n ∷ ns) block = with_words ns (set block n.at n.word)

unfoldable pub blank : List ℕ
blank = replicate words_in_block 0

unfoldable pub deck_label : List ℕ
deck_label = with_words (
    record { at = 0; word = 0o060505050505 }
    ∷ record { at = 1; word = 0o050505050505 }
    ∷ record { at = 2; word = 0o100000000000 }
    ∷ record { at = 253; word = 0o000001000000 }
    ∷ record { at = 254; word = 0o000000503637 }
    ∷ record { at = 255; word = 0o060505050505 }
    ∷ []) blank

unfoldable pub deck_program : List ℕ
deck_program = with_words (
    record { at = 0; word = 0o502527242710 }
    ∷ record { at = 1; word = 0o000001000000 }
    ∷ record { at = 5; word = 0o401001400000 }
    ∷ record { at = 6; word = 0o000000000007 }
    ∷ record { at = 7; word = 0o200000000000 }
    ∷ record { at = 255; word = 0o000001146451 }
    ∷ []) blank

unfoldable pub deck_termination : List ℕ
deck_termination = with_words (
    record { at = 0; word = 0o503127222710 }
    ∷ record { at = 255; word = 0o000000726037 }
    ∷ []) blank

abbrev pub deck_file : List (List ℕ)
deck_file = deck_label ∷ deck_program ∷ deck_termination ∷ []
