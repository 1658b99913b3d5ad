-- What holds of the worked file, of the faulty ones and of the split one. Each statement is proved under the same name in small
-- letters in proofs/, by computing from the definitions alone: `WorkedImage` by `worked_image_lem`.
use Rattle.std.specs.Prelude.{ℕ, ◌+◌, ◌*◌, ◌^◌, ◌≡◌, List, [], ◌∷◌, ◌++◌, map, length, replicate, take, Result, Ok, Err}
use Rattle.word.specs.Fault.{fault, further, pass}
use Rattle.word.specs.Lists.{splice, cleared}
use Rattle.stage.specs.declared.Stage.TheVariants.{Label, Complete}
use Rattle.calls.specs.declared.Answer.TheVariants.{Made, Opened, More, Done, Refused}
use Rattle.demands.specs.Image.{image_of, file_start}
use Rattle.demands.specs.Taking.{Takes}
use Rattle.demands.specs.History.{State, Event}
use Rattle.demands.specs.Examples.{old_core, old}
use Rattle.word.specs.declared.Fault.{Fault}
use Rattle.label.specs.declared.Label.{Label as LabelWords}
use Rattle.front.specs.Front.{label_block, needs_value}
use Rattle.book.specs.Assign.{refused_with, assign_of}
use Rattle.worked_file.specs.Blocks.{worked_ios, worked_tables, worked_given, worked_label, worked_file}
use Rattle.worked_file.specs.Book.{worked_book, worked_front, wrong_books, wrong_fronts, shared_front, shared_tables, lent_ios}
use Rattle.worked_file.specs.Book.{lent_tables}
use Rattle.worked_file.specs.Image.{worked_image}
use Rattle.worked_file.specs.Lives.{life, answers_to, core_left, states_from, Waiting, waits_from}
use Rattle.worked_file.specs.Refused.{answer_in, core_in, step_in, faulty_files, edge_files}
use Rattle.worked_file.specs.Split.{split_tables, split_given, split_label, first_entries, other_entries, split_file, split_image}

-- ---- the worked file

-- the image that demand 2 speaks of is the one that was worked out by hand
abbrev pub WorkedImage : Type 0
WorkedImage = image_of worked_given.area worked_given.tables worked_given.ios worked_file ≡ worked_image

-- the start is the IBANK's last word
abbrev pub WorkedStart : Type 0
WorkedStart = file_start worked_given.area worked_file ≡ record { 0 = 0o2021 }

-- a load by itself takes one block after another to the end, and then its area holds that image
abbrev pub WorkedTaken : Type 0
WorkedTaken = Takes worked_given Label (replicate 0o2200 0) worked_file Complete (replicate 0o2000 0 ++ worked_image)

-- a load on a desk is answered so, and every other word of the core is as it was
abbrev pub worked_life : List Event
worked_life = life worked_given.area worked_ios worked_tables worked_file

abbrev pub WorkedAnswers : Type 0
WorkedAnswers = answers_to worked_life ≡ Made ∷ Opened 0 ∷ More ∷ More ∷ More ∷ More ∷ Done (record { 0 = 0o2021 }) ∷ []

abbrev pub WorkedCore : Type 0
WorkedCore = core_left worked_life ≡ splice old_core 0o2000 worked_image

-- ---- the faulty files

abbrev pub worked_states : List State
worked_states = states_from worked_life old

-- each is refused in the block that has the fault, with its number and place
abbrev pub FaultyAnswers : Type 0
FaultyAnswers = map (answer_in worked_states) faulty_files ≡ map (λ f. Refused f.fault) faulty_files

-- and then the whole area is zero, and every other word of the core as it was
abbrev pub FaultyCores : Type 0
FaultyCores = map (core_in worked_states) faulty_files ≡ replicate (length faulty_files) (cleared old_core 0o2000 0o200)

-- so is each of the others, by a load by itself
abbrev pub worked_waits : List Waiting
worked_waits = waits_from worked_given (record { stage = Label; core = replicate 0o2200 0 }) worked_file

abbrev pub EdgeSteps : Type 0
EdgeSteps = map (step_in worked_waits) edge_files ≡ map (λ f. Err f.fault) edge_files

-- ---- the file whose last entry is split across two blocks

-- it is taken to its end, and its area holds its image
abbrev pub SplitImage : Type 0
SplitImage = image_of split_given.area split_given.tables [] split_file ≡ split_image

abbrev pub SplitTaken : Type 0
SplitTaken = Takes split_given Label (replicate 0o2130 0) split_file Complete (replicate 0o2000 0 ++ split_image)

-- with another length in the second block, that block is refused with 16
abbrev pub SplitAnswers : Type 0
SplitAnswers =
    answers_to (life split_given.area [] split_tables (split_label ∷ first_entries ∷ other_entries ∷ []))
    ≡ Made ∷ Opened 0 ∷ More ∷ More ∷ Refused (further 1 (fault 16)) ∷ []

-- ---- by a book

-- the worked file's book gives the lists that it is loaded with
abbrev pub WorkedAssigned : Type 0
WorkedAssigned =
    assign_of worked_book worked_front lent_ios lent_tables ≡ record { answer = pass; io = worked_ios; tables = worked_tables }

-- one length tag serves two tables
abbrev pub SharedAssigned : Type 0
SharedAssigned =
    assign_of (take 126 worked_book) shared_front lent_ios lent_tables ≡ record { answer = pass; io = worked_ios; tables = shared_tables }

-- each wrong book is refused with its number, each wrong front with its fault, and the lists are left
abbrev pub WrongBooks : Type 0
WrongBooks = map (λ b. assign_of b.book worked_front lent_ios lent_tables) wrong_books
    ≡ map (λ b. refused_with b.number lent_ios lent_tables) wrong_books

abbrev pub WrongFronts : Type 0
WrongFronts = map (λ f. assign_of worked_book f.blocks lent_ios lent_tables) wrong_fronts
    ≡ map (λ f. record { answer = Err f.fault; io = lent_ios; tables = lent_tables }) wrong_fronts

-- lists that are too short or too long are refused with 24
abbrev pub WrongLists : Type 0
WrongLists = (assign_of worked_book worked_front (replicate 3 0) lent_tables ≡ refused_with 24 (replicate 3 0) lent_tables)
    × (assign_of worked_book worked_front lent_ios (replicate 7 0) ≡ refused_with 24 lent_ios (replicate 7 0))

abbrev needs_in : Result LabelWords Fault → ℕ
needs_in (Ok l) = needs_value l
needs_in (Err f) = 0

-- its label needs 4 I/O numbers, 3 tables and 1 modification block
abbrev pub WorkedNeeds : Type 0
WorkedNeeds = needs_in (label_block worked_label) ≡ 4 + 3 * 2 ^ 10 + 2 ^ 20
