-- The loop over a group's program words: where it stands, and what a turn of it leaves; how the code goes, not a rule of 01.
use Rattle.std.specs.Prelude.{ℕ, ◌+◌, ◌-◌, ◌*◌, ◌≤◌, ◌<◌, ◌≡◌, true, List, length, Option, Some, None}
use Rattle.word.specs.Fault.{further}
use Rattle.word.specs.Limits.{words_in_block}
use Rattle.word.specs.Lists.{every, range, splice}
use Rattle.word.specs.Word.{is_word}
use Rattle.lists.specs.declared.Given.{Given}
use Rattle.lists.specs.Load.{Readable}
use Rattle.field.specs.Field.{Assignments}
use Rattle.indicator.specs.declared.Cursor.{Cursor}
use Rattle.indicator.specs.Indicator.{after_all}
use Rattle.indicator.specs.HowCursor.{group_bits, Sees, place_of}
use Rattle.group.specs.declared.changes.Progress.{Progress}
use Rattle.group.specs.Group.{Words, changed_words}
use Rattle.group.specs.Group.Words.{Become, Refuse}
use Rattle.group.specs.HowWords.{program_in}

-- a refusal
abbrev pub Refuses : Words → Type 0
Refuses (Become vs) = ⊥
Refuses (Refuse f) = Unit {0}

-- what words become, onto the core's words from number k on; a refusal writes nothing, and its word counts from these words' first
unfoldable pub onto : List ℕ → ℕ → Words → Words
onto out k (Become vs) = Become (splice out k vs)
onto out k (Refuse f) = Refuse (further k f)

-- what the words given from number k on become, by the indicators from place q on, onto the core's words
abbrev pub become_from : Assignments → List ℕ → List ℕ → List ℕ → ℕ → ℕ → Words
become_from a bits given out k q = onto out k (changed_words a bits q (range given k (length given - k)))

-- word number k is next, with the cursor c: it sees the group's bits, what is left to do onto the words stored so far is what there
-- was to do, and the indicators left end where all end
pub record Reached (a : Assignments) (words : List ℕ) (n : ℕ) (given out : List ℕ) (c : Cursor) (k : ℕ) : Type 0 where
  pub most : k ≤ length given
  pub reach : place_of (length words) n c + 26 * (length given - k) ≤ 26 * length given
  pub sees : Sees words n c (place_of (length words) n c) 0
  pub long : length out ≡ length given
  pub become : become_from a (group_bits words n) given out k (place_of (length words) n c)
      ≡ changed_words a (group_bits words n) 0 given
  pub ends : after_all (group_bits words n) (place_of (length words) n c) (range given k (length given - k))
      ≡ after_all (group_bits words n) 0 given

-- what is known before a turn: a word is left, and 29 bits are at hand
pub record TurnReady (g : Given) (l : List ℕ) (a : Assignments) (words : List ℕ) (n : ℕ) (p : Progress)
    (out : List ℕ) : Type 0 where
  pub lists : Readable g l
  pub all : every is_word words ≡ true
  pub few : length words < words_in_block
  pub program : n ≤ length words
  pub more : p.word < n
  pub many : 28 < p.cursor.left
  pub reached : Reached a words n (program_in words n) out p.cursor p.word

-- what it leaves: less to do, or a refusal
pub record Turns (a : Assignments) (words : List ℕ) (n : ℕ) (p : Progress) (m : Option Progress) (out : List ℕ) : Type 0 where
  pub goes : (q : Progress) → m ≡ Some q → (p.word < q.word) × (Reached a words n (program_in words n) out q.cursor q.word)
  pub stops : m ≡ None → Refuses (changed_words a (group_bits words n) 0 (program_in words n))
  pub long : length out ≡ n
