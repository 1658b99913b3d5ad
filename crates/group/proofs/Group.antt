-- What a group does, whatever it answers: the core keeps its length, nothing but the group's own words changes, what is stored is
-- a word, and the later group stands.
use Rattle.std.specs.Prelude.{Result, Ok, Err}
use mathlib.Core.Path.{◌≡◌, refl, sym, ap, ◌∙◌}
use mathlib.Core.Bool.{Bool, true, ◌&&◌}
use mathlib.Core.List.{List}
use mathlib.Core.Logic.{⊎_elim, inl, inr}
use Prim.Native.Nat.{ℕ, ◌+◌, ◌<◌, ◌≤◌}
use native.Mathlib.Omega.{arith}
use lib.ListN.{length, get_or}
use borrow.Author.Tests.{leb-true}
use Rattle.word.specs.Limits.{words_in_block}
use Rattle.program.specs.Sections.{last_word}
use Rattle.word.specs.declared.Absolute.{Absolute}
use Rattle.word.specs.declared.Fault.{Fault}
use Rattle.word.specs.Fault.{fault, further}
use Rattle.word.specs.Lists.{every, splice, cleared}
use Rattle.word.specs.Word.{is_word}
use Rattle.word.proofs.Cases.{and_left, and_right, when}
use Rattle.word.proofs.Lists.{length-range, length-range_most, length-splice, get_d_splice_in}
use Rattle.word.proofs.Stretch.{Beside, length-cleared, get_d_splice_beside, get_d_cleared_beside, every-range}
use Rattle.program.specs.declared.Group.{Group}
use Rattle.std.specs.Prelude.{Result, Ok, Err}
use Rattle.program.specs.Groups.{group_of}
use Rattle.field.specs.Field.{Assignments}
use Rattle.group.specs.declared.GroupEnd.{GroupEnd}
use Rattle.group.specs.declared.Section.{Section}
use Rattle.group.specs.Group.{ended, Words, changed_words, program_words, indicator_bits_in, in_one_block, holds_program, words_lie}
use Rattle.group.specs.Group.{indicators_fit, group_fits, GroupOutcome, GroupMeets, address_of, refused_group, stored_group}
use Rattle.group.specs.Group.{group_outcome, read_outcome, group_step, InArea}
use Rattle.group.specs.Group.Words.{Become, Refuse}
use Rattle.group.proofs.Stored.{StoredWords, stored-none, stored-splice, stored-cleared}
use Rattle.group.proofs.Places.{Lies, words_lie_lem}
use Rattle.group.proofs.Words.{changed-many, changed_below}

-- two ends that are told alike are one
ended_same : {e d : GroupEnd} → ◌≡◌ {A = Result GroupEnd Fault} (Ok e) (Ok d) → d ≡ e
ended_same q = cc

-- two outcomes that meet the contract are equal
pub one_outcome : (o : GroupOutcome) (r r' : Result GroupEnd Fault) (core core' : List ℕ) → GroupMeets o r core → GroupMeets o r' core'
    → (r ≡ r') × (core ≡ core')
one_outcome o r r' core core' p q = (p.told ∙ sym q.told, p.left ∙ sym q.left)

-- what the tests of a group say together
pub record Fit (section : Section) (i : ℕ) (g : Group) : Type 0 where
  pub whole : i + g.words ≤ last_word
  pub holds : g.program ≤ g.words
  pub lies : words_lie section g ≡ true

pub group_fits_lem : (section : Section) (block : List ℕ) (i : ℕ) (g : Group) → group_fits section block i g ≡ true → Fit section i g
unfolding group_fits
group_fits_lem section block i g q =
    let rest = words_lie section g && indicators_fit block i g in
    let r = and_right (in_one_block i g) (holds_program g && rest) q in
    record {
      whole = leb-true (i + g.words) last_word (and_left (in_one_block i g) (holds_program g && rest) q);
      holds = leb-true g.program g.words (and_left (holds_program g) rest r);
      lies = and_left (words_lie section g) (indicators_fit block i g) (and_right (holds_program g) rest r);
    }

-- ---- the group at place i
-- it is g, and its words go to the address `to`
pub record Goes (a : Assignments) (section : Section) (block : List ℕ) (i : ℕ) (g : Group) (to : Absolute) : Type 0 where
  pub read : group_of (get_or block i 0) ≡ Ok g
  pub lies : words_lie section g ≡ true
  pub address : address_of a.area section g ≡ to

-- its words become vs
abbrev pub Gives : Assignments → List ℕ → ℕ → Group → List ℕ → Type 0
Gives a block i g vs = changed_words a (indicator_bits_in block i g) 0 (program_words block i g) ≡ Become vs

-- the three outcomes
abbrev pub untouched : List ℕ → Fault → GroupOutcome
untouched core f = record { answer = Err f; core = core }

abbrev pub zeroed : Group → Absolute → List ℕ → Fault → GroupOutcome
zeroed g to core f = record { answer = Err f; core = cleared core to.0 g.program }

abbrev pub stored : ℕ → Group → Absolute → List ℕ → List ℕ → GroupOutcome
stored i g to core vs = record { answer = ended (i + 1 + g.words) g.last; core = splice core to.0 vs }

-- the next identifier is due at place p
pub record GroupEnded (block : List ℕ) (i p : ℕ) (last : Bool) : Type 0 where
  pub group : Group
  pub read : group_of (get_or block i 0) ≡ Ok group
  pub place : p ≡ i + 1 + group.words
  pub flag : last ≡ group.last
  pub most : p ≤ 255
  pub after : i < p

module _ (a : Assignments) (section : Section) (block : List ℕ) (i : ℕ) where
  -- the core is untouched, the words are cleared, or they are stored
  module _ (core : List ℕ) (P : GroupOutcome → Type 0) (none : (f : Fault) → P (untouched core f))
      (zeros : (g : Group) (to : Absolute) (f : Fault) → Goes a section block i g to → P (zeroed g to core f))
      (all : (g : Group) (to : Absolute) (vs : List ℕ) → Goes a section block i g to → Fit section i g → Gives a block i g vs
      → P (stored i g to core vs)) where
    by_place : (g : Group) (f : Fault) → group_of (get_or block i 0) ≡ Ok g → P (refused_group a.area section g core f)
    unfolding refused_group
    by_place g f e =
        when (λ (l : List ℕ). P (untouched l f)) (words_lie section g)
        (λ q. zeros g (address_of a.area section g) f (record { read = e; lies = q; address = refl }))
        (λ q. none f)

    by_words : (g : Group) → group_of (get_or block i 0) ≡ Ok g → Fit section i g → (r : Words)
        → changed_words a (indicator_bits_in block i g) 0 (program_words block i g) ≡ r
        → P (stored_group a.area section i g core r)
    unfolding stored_group
    by_words g e h (Become vs) q = all g (address_of a.area section g) vs
        (record { read = e; lies = h.lies; address = refl }) h q
    by_words g e h (Refuse f) q = by_place g (further 1 f) e

    by_read : (x : Result Group Fault) → group_of (get_or block i 0) ≡ x → P (read_outcome a section block i core x)
    unfolding read_outcome group_outcome
    by_read (Ok g) e =
        when P (group_fits section block i g)
        (λ q. by_words g e (group_fits_lem section block i g q)
        (changed_words a (indicator_bits_in block i g) 0 (program_words block i g)) refl)
        (λ q. by_place g (fault 18) e)
    by_read (Err f) e = none f

    pub group_outcomes : P (group_step a section block i core)
    unfolding group_step
    group_outcomes = by_read (group_of (get_or block i 0)) refl

  -- where it answers `ended`, the next identifier is due behind it, at word 255 at the latest
  pub group_done : (core : List ℕ) (p : ℕ) (last : Bool) → (group_step a section block i core).answer ≡ ended p last
      → GroupEnded block i p last
  group_done core p last = group_outcomes core (λ (o : GroupOutcome). o.answer ≡ ended p last → GroupEnded block i p last)
      (λ f q. let z : ◌≡◌ {A = ℕ} 0 1 = cc in absurd (omega arith))
      (λ g to f h q. let z : ◌≡◌ {A = ℕ} 0 1 = cc in absurd (omega arith))
      (λ g to vs h t e q.
      let x : p ≡ i + 1 + g.words = ap (λ (e : GroupEnd). e.past) (ended_same q) in
      let y : last ≡ g.last = ap (λ (e : GroupEnd). e.last) (ended_same q) in
      record { group = g; read = h.read; place = x; flag = y; most = omega (arith, t.whole); after = omega arith })

  -- it is one group, with one address
  goes_same : (g g' : Group) (to to' : Absolute) → Goes a section block i g to → Goes a section block i g' to' → (g ≡ g')
      × (to ≡ to')
  goes_same g g' to to' h h' =
      let x : g ≡ g' = good (group_of (get_or block i 0)) h.read h'.read in
      (x, sym (rw x at h.address) ∙ h'.address)
    where
      good : (r : Result Group Fault) → r ≡ Ok g → r ≡ Ok g' → g ≡ g'
      good r p q = cc

  -- ---- of any group in an area that lies in the core
  module _ (core : List ℕ) (room : InArea a.area section) (inside : a.area.at.0 + a.area.size ≤ length core) where
    goes_lies : (g : Group) (to : Absolute) → Goes a section block i g to → Lies a.area g to
    goes_lies g to h = rw h.address at (words_lie_lem a.area section g room h.lies)

    gives_few : (g : Group) (vs : List ℕ) → Gives a block i g vs → length vs ≤ g.program
    gives_few g vs e =
        let n = rw e at (changed-many a (indicator_bits_in block i g) 0 (program_words block i g)) in
        omega (arith, n, length-range_most block (i + 1) g.program)

    -- the core keeps its length
    pub group_length : length (group_step a section block i core).core ≡ length core
    group_length = group_outcomes core (λ (o : GroupOutcome). length o.core ≡ length core) (λ f. refl)
        (λ g to f h. let l = goes_lies g to h in length-cleared core to.0 g.program (omega (arith, l.high)))
        (λ g to vs h t e. let l = goes_lies g to h in let n = gives_few g vs e in length-splice core to.0 vs
        (omega (arith, l.high)))

    -- no word beside the group's words changes
    pub group_beside : (j : ℕ) → ((g : Group) (to : Absolute) → Goes a section block i g to → Beside j to.0 g.program)
        → get_or (group_step a section block i core).core j 0 ≡ get_or core j 0
    group_beside j b = group_outcomes core (λ (o : GroupOutcome). get_or o.core j 0 ≡ get_or core j 0) (λ f. refl)
        (λ g to f h. let l = goes_lies g to h in get_d_cleared_beside core to.0 g.program j (omega (arith, l.high))
        (b g to h))
        (λ g to vs h t e.
        let l = goes_lies g to h in
        let n = gives_few g vs e in
        get_d_splice_beside core to.0 vs j (omega (arith, l.high)) (⊎_elim (λ x. inl x) (λ x. inr (omega arith)) (b g to h)))

    -- so none outside the area does
    pub group_area : (j : ℕ) → Beside j a.area.at.0 a.area.size
        → get_or (group_step a section block i core).core j 0 ≡ get_or core j 0
    group_area j b = group_beside j
        (λ g to h. let l = goes_lies g to h in ⊎_elim (λ x. inl (omega (arith, l.low))) (λ x. inr (omega (arith, l.high))) b)

    -- what it stores is words below 2^36, whatever the core held
    pub group_words_lem : every is_word block ≡ true → StoredWords core (group_step a section block i core).core
    group_words_lem w = group_outcomes core (λ (o : GroupOutcome). StoredWords core o.core) (λ f. stored-none core)
        (λ g to f h. let l = goes_lies g to h in stored-cleared core to.0 g.program (omega (arith, l.high)))
        (λ g to vs h t e.
        let l = goes_lies g to h in
        let n = gives_few g vs e in
        stored-splice core to.0 vs (omega (arith, l.high))
        (rw e at (changed_below a (indicator_bits_in block i g) 0 (program_words block i g)
        (every-range is_word block (i + 1) g.program w))))

    -- where it answers `ended`, each of its words stands in the core, whatever stood there
    pub group_stored : length block ≡ words_in_block → (p : ℕ) (last : Bool) → (group_step a section block i core).answer ≡ ended p last
        → (g : Group) (to : Absolute) (vs : List ℕ) → Goes a section block i g to → Gives a block i g vs
        → (k : ℕ) → k < g.program → get_or (group_step a section block i core).core (to.0 + k) 0 ≡ get_or vs k 0
    group_stored long p last q g to vs h e k b =
        group_outcomes core (λ (o : GroupOutcome). o.answer ≡ ended p last → get_or o.core (to.0 + k) 0 ≡ get_or vs k 0)
        (λ f r. let z : ◌≡◌ {A = ℕ} 0 1 = cc in absurd (omega arith))
        (λ g' to' f h' r. let z : ◌≡◌ {A = ℕ} 0 1 = cc in absurd (omega arith))
        (λ g' to' vs' h' t e' r.
        let s = goes_same g g' to to' h h' in
        let v : vs ≡ vs' = become (changed_words a (indicator_bits_in block i g') 0 (program_words block i g')) vs vs'
        (rw s.0 at e) e' in
        let l = goes_lies g to h in
        let u : Fit section i g = rw s.0 t in
        let n = rw e at (changed-many a (indicator_bits_in block i g) 0 (program_words block i g)) in
        let m = length-range block (i + 1) g.program (omega (arith, u.whole, u.holds)) in
        rw (← s.1, ← v) (get_d_splice_in core to.0 vs k (omega arith) (omega (arith, l.high))))
        q
      where
        become : (r : Words) (x y : List ℕ) → r ≡ Become x → r ≡ Become y → x ≡ y
        become r x y p' q' = cc

-- "Where groups overlap, the later word stands": the core after one group and then another has, wherever the later one stores, its
-- words
pub later_stands : (a : Assignments) (section : Section) (block : List ℕ) (i : ℕ) (core : List ℕ) → InArea a.area section
    → a.area.at.0 + a.area.size ≤ length core
    → (section' : Section) (block' : List ℕ) (j : ℕ) → InArea a.area section' → length block' ≡ words_in_block
    → (p : ℕ) (last : Bool) → (group_step a section' block' j (group_step a section block i core).core).answer ≡ ended p last
    → (g : Group) (to : Absolute) (vs : List ℕ) → Goes a section' block' j g to → Gives a block' j g vs
    → (k : ℕ) → k < g.program
    → get_or (group_step a section' block' j (group_step a section block i core).core).core (to.0 + k) 0 ≡ get_or vs k 0
later_stands a section block i core room inside section' block' j room' long =
    group_stored a section' block' j (group_step a section block i core).core room'
    (rw (group_length a section block i core room inside) inside) long
