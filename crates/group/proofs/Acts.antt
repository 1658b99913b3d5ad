-- What a group answers and what it writes hang on its block and what the load was given, not on the core.
use Prim.Native.Nat.{ℕ, ◌+◌, ◌-◌, ◌≤◌, ◌<◌}
use Rattle.std.specs.Prelude.{Result, Err}
use mathlib.Core.Path.{◌≡◌, refl, sym, ◌∙◌}
use mathlib.Core.Bool.{Bool, true, false, cond}
use mathlib.Core.List.{List, []}
use mathlib.Core.Logic.{inl, inr}
use native.Mathlib.Omega.{arith}
use lib.ListN.{length, get_or, replicate, length-replicate}
use Rattle.word.specs.declared.Area.{Area}
use Rattle.word.specs.declared.Fault.{Fault}
use Rattle.word.specs.Fault.{fault, further}
use Rattle.word.specs.Lists.{splice, cleared}
use Rattle.word.proofs.Cases.{by-test, by-lt}
use Rattle.word.proofs.Lists.{length-range_most, get_d_splice_in}
use Rattle.word.proofs.Stretch.{splice-none, get_d_splice_beside}
use Rattle.program.specs.declared.Group.{Group}
use Rattle.std.specs.Prelude.{Result, Ok, Err}
use Rattle.program.specs.Groups.{group_of}
use Rattle.field.specs.Field.{Assignments}
use Rattle.group.specs.declared.GroupEnd.{GroupEnd}
use Rattle.group.specs.declared.Section.{Section}
use Rattle.group.specs.Group.{ended, Words, changed_words, program_words, indicator_bits_in, words_lie, group_fits, GroupOutcome}
use Rattle.group.specs.Group.{address_of, refused_group, stored_group, group_outcome, read_outcome, group_step, InArea}
use Rattle.group.specs.Group.Words.{Become, Refuse}
use Rattle.group.proofs.Group.{untouched, group_fits_lem}
use Rattle.group.proofs.Places.{words_lie_lem}
use Rattle.group.proofs.Words.{Many, changed-many}

-- one answer, and one stretch of words of the area, whatever the core holds
pub record Acts (area : Area) (f : List ℕ → GroupOutcome) : Type 0 where
  pub answer : Result GroupEnd Fault
  pub to : ℕ
  pub words : List ℕ
  pub low : area.at.0 ≤ to
  pub high : to + length words ≤ area.at.0 + area.size
  pub told : (core : List ℕ) → (f core).answer ≡ answer
  pub left : (core : List ℕ) → (f core).core ≡ splice core to words

module _ (area : Area) where
  choose : (b : Bool) (f g : List ℕ → GroupOutcome) → (b ≡ true → Acts area f) → Acts area g
      → Acts area (λ core. cond b (f core) (g core))
  choose true f g p q = p refl
  choose false f g p q = q

  untouched_acts : (f : Fault) → Acts area (λ core. untouched core f)
  untouched_acts f = record {
    answer = Err f;
    to = area.at.0;
    words = [];
    low = omega arith;
    high = omega arith;
    told = λ core. refl;
    left = λ core. sym (splice-none core area.at.0);
  }

  module _ (section : Section) (g : Group) (room : InArea area section) where
    -- the words cleared, if they lie where they must
    refused_acts : (f : Fault) → Acts area (λ core. refused_group area section g core f)
    unfolding refused_group cleared
    refused_acts f = by-test (words_lie section g)
        (λ q. let l = words_lie_lem area section g room q in
        rw q
        (record {
          answer = Err f;
          to = (address_of area section g).0;
          words = replicate g.program 0;
          low = l.low;
          high = rw length-replicate l.high;
          told = λ core. refl;
          left = λ core. refl;
        }))
        (λ q. rw q (untouched_acts f))

    stored_acts : words_lie section g ≡ true → (i n : ℕ) → n ≤ g.program → (r : Words) → Many n r
        → Acts area (λ core. stored_group area section i g core r)
    unfolding stored_group
    stored_acts q i n few (Become vs) m =
        let l = words_lie_lem area section g room q in
        record {
          answer = ended (i + 1 + g.words) g.last;
          to = (address_of area section g).0;
          words = vs;
          low = l.low;
          high = omega (arith, l.high, m);
          told = λ core. refl;
          left = λ core. refl;
        }
    stored_acts q i n few (Refuse f) m = refused_acts (further 1 f)

module _ (a : Assignments) (section : Section) (block : List ℕ) (i : ℕ) where
  read_acts : InArea a.area section → (r : Result Group Fault) → Acts a.area (λ core. read_outcome a section block i core r)
  unfolding read_outcome group_outcome
  read_acts room (Ok g) =
      choose a.area (group_fits section block i g) _ _
      (λ q. stored_acts a.area section g room (group_fits_lem section block i g q).lies i (length (program_words block i g))
      (length-range_most block (i + 1) g.program) (changed_words a (indicator_bits_in block i g) 0 (program_words block i g))
      (changed-many a (indicator_bits_in block i g) 0 (program_words block i g)))
      (refused_acts a.area section g room (fault 18))
  read_acts room (Err f) = untouched_acts a.area f

  pub group_acts : InArea a.area section → Acts a.area (group_step a section block i)
  unfolding group_step
  group_acts room = read_acts room (group_of (get_or block i 0))

-- ---- two cores that hold the area, with the same words in it
abbrev pub Alike : Area → List ℕ → List ℕ → Type 0
Alike area core core' = (j : ℕ) → area.at.0 ≤ j → j < area.at.0 + area.size → get_or core j 0 ≡ get_or core' j 0

-- the same words written into both leave the same words in the area
splice_alike : (area : Area) (core core' : List ℕ) (to : ℕ) (vs : List ℕ) → to + length vs ≤ length core
    → to + length vs ≤ length core'
    → Alike area core core' → Alike area (splice core to vs) (splice core' to vs)
splice_alike area core core' to vs h h' s j l k =
    by-lt j to
    (λ b. get_d_splice_beside core to vs j h (inl b) ∙ s j l k ∙ sym (get_d_splice_beside core' to vs j h' (inl b)))
    (λ b. by-lt j (to + length vs)
    (λ d. let e : to + (j - to) ≡ j = omega arith in
    rw e at (get_d_splice_in core to vs (j - to) (omega arith) h ∙ sym (get_d_splice_in core' to vs (j - to) (omega arith) h')))
    (λ d. get_d_splice_beside core to vs j h (inr d) ∙ s j l k ∙ sym (get_d_splice_beside core' to vs j h' (inr d))))

module _ (a : Assignments) (section : Section) (block : List ℕ) (i : ℕ) (room : InArea a.area section)
    (core core' : List ℕ) where
  pub group_same : (group_step a section block i core).answer ≡ (group_step a section block i core').answer
  group_same = let x = group_acts a section block i room in x.told core ∙ sym (x.told core')

  pub group_alike : a.area.at.0 + a.area.size ≤ length core → a.area.at.0 + a.area.size ≤ length core'
      → Alike a.area core core'
      → Alike a.area (group_step a section block i core).core (group_step a section block i core').core
  group_alike h h' s =
      let x = group_acts a section block i room in
      rw (x.left core, x.left core')
      (splice_alike a.area core core' x.to x.words (omega (arith, x.high)) (omega (arith, x.high)) s)
