-- A program's name: "12 Fieldata characters: A to Z .., 0 to 9 .., hyphen .., space .. . The first is a letter or digit; spaces
-- only at the end." Where it is none, the fault is 15 at the word of the first wrong character.
use Rattle.std.specs.Prelude.{ℕ, zero, suc, ◌/◌, Bool, cond, not, ◌&&◌, ◌||◌, List, length, get_or, take, eqb, Err}
use Rattle.word.specs.Lists.{every, first_not}
use Rattle.word.specs.Fault.{fault, further, Verdict, pass}
use Rattle.word.specs.declared.Fault.{Fault}
use Rattle.block.specs.Fieldata.{space, hyphen, is_letter, is_digit}

unfoldable pub letter_or_digit : ℕ → Bool
letter_or_digit c = is_letter c || is_digit c

abbrev pub is_space : ℕ → Bool
is_space c = eqb c space

abbrev pub no_space : ℕ → Bool
no_space c = not (is_space c)

-- character number j may stand where it does: the first is a letter or digit; a later one is a space or, where no space stands
-- before it, a letter, a digit or a hyphen. So behind a space that is not at the end it is the later character that is wrong
unfoldable pub may_stand : List ℕ → ℕ → Bool
may_stand cs zero = letter_or_digit (get_or cs 0 0)
may_stand cs (suc j) =
    is_space (get_or cs (suc j) 0)
    || (every no_space (take (suc j) cs)
    && (letter_or_digit (get_or cs (suc j) 0) || eqb (get_or cs (suc j) 0) hyphen))

-- the number of the first wrong character; where none is, how many there are
unfoldable pub first_wrong : List ℕ → ℕ
first_wrong cs = first_not (may_stand cs) (length cs)

unfoldable pub is_name : List ℕ → Bool
is_name cs = eqb (first_wrong cs) (length cs)

-- 15 at the word of the first wrong character, six characters a word
abbrev pub name_fault : List ℕ → Fault
name_fault cs = further (first_wrong cs / 6) (fault 15)

-- what the reader of a name answers
unfoldable pub name_read : List ℕ → Verdict
name_read cs = cond (is_name cs) pass (Err (name_fault cs))
