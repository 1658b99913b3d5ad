-- how the code goes, not a rule of 01
-- A name read a character at a time. That it goes wrong at the first wrong character is `spelled_right` and `spelled_wrong` in
-- proofs/Spelt.antt.
use Rattle.std.specs.Prelude.{ℕ, Bool, true, false, cond, List, [], ◌∷◌, eqb}
use Rattle.block.specs.Fieldata.{hyphen}
use Rattle.label.specs.Name.{letter_or_digit, is_space}
use Rattle.label.specs.declared.Spelling.{Spelling}
use Rattle.label.specs.declared.Spelling.TheVariants.{First, Inside, Spaces, Wrong}

unfoldable pub next_spelling : Spelling → ℕ → Spelling
next_spelling First c = cond (letter_or_digit c) Inside Wrong
next_spelling Inside c = cond (is_space c) Spaces (cond (letter_or_digit c) Inside (cond (eqb c hyphen) Inside Wrong))
next_spelling Spaces c = cond (is_space c) Spaces Wrong
next_spelling Wrong c = Wrong

unfoldable pub spelled : Spelling → List ℕ → Spelling
spelled s [] = s
spelled s (c ∷ cs) = spelled (next_spelling s c) cs

abbrev pub is_wrong : Spelling → Bool
is_wrong First = false
is_wrong Inside = false
is_wrong Spaces = false
is_wrong Wrong = true
