-- What a load begins with, where open answered `opened`: its place holds what was lent, it waits for its label, and its area is
-- zeros.
use Prim.Native.Nat.{ℕ, ◌+◌, ◌≤◌, ◌<◌}
use mathlib.Core.Path.{◌≡◌, sym, ap, subst, ◌∙◌}
use mathlib.Core.Bool.{true, false≢true}
use mathlib.Core.List.{List}
use mathlib.Core.Logic.{⊎_elim}
use lib.ListN.{length, get_or, get_or-replicate}
use Rattle.word.specs.Lists.{every, cleared}
use Rattle.word.specs.declared.Area.{Area}
use Rattle.word.proofs.Lists.{get_d_range}
use Rattle.word.proofs.Stretch.{length-cleared}
use Rattle.rooms.specs.Rooms.{lowest_free}
use Rattle.lists.specs.Obey.{tables_of, table_inside}
use Rattle.lists.proofs.Keep.{lists_obey_lem}
use Rattle.stage.specs.declared.Stage.TheVariants.{Label}
use Rattle.layout.specs.Layout.{place_in, holder_of, stage_in, holders}
use Rattle.calls.specs.Answer.{value_of}
use Rattle.calls.specs.declared.Answer.TheVariants.{Opened}
use Rattle.calls.specs.Outcome.{Outcome}
use Rattle.calls.specs.Open.{open_of, opened}
use Rattle.feed.specs.Feed.{load_in}
use Rattle.demands.specs.History.{State, answer_to, call}
use Rattle.demands.specs.Grants.{is_opened}
use Rattle.demands.specs.Opening.{Opening, IsGranted, after_open}
use Rattle.demands.proofs.Prepared.{Prepared}
use Rattle.demands.proofs.Views.{cleared_words}
use Rattle.demands.proofs.Reach.{left_by}
use Rattle.demands.proofs.Loaded.{opened-load, opened-stage, opened_holder}
use Rattle.demands.proofs.Outcomes.{Granted, open_sorted}
use Rattle.demands.proofs.Ready.{area-inside}
use Rattle.demands.proofs.Calls.{granted_ready}

-- a load of room r at place p, in state t
pub record Begun (r : ℕ) (area : Area) (ios tables : List ℕ) (p : ℕ) (t : State) : Type 0 where
  pub ready : Prepared t
  pub holder : holder_of (place_in t.desk p) ≡ r + 1
  pub load : load_in (place_in t.desk p) ≡ record { area = area; tables = tables_of tables; ios = ios }
  pub stage : stage_in (place_in t.desk p) ≡ Label
  pub inside : area.at.0 + area.size ≤ length t.core
  pub tables-inside : every (table_inside area) (tables_of tables) ≡ true
  pub zeros : (k : ℕ) → k < area.size → get_or t.core (area.at.0 + k) 0 ≡ 0

cleared-zero : (core : List ℕ) (a n : ℕ) → a + n ≤ length core → (k : ℕ) → k < n → get_or (cleared core a n) (a + k) 0 ≡ 0
cleared-zero core a n h k l =
    sym (get_d_range (cleared core a n) a n k l) ∙ ap (λ (m : List ℕ). get_or m k 0) (cleared_words core a n h)
    ∙ get_or-replicate n k 0 0 l

module _ (s : State) (r : ℕ) (area : Area) (ios tables : List ℕ) where
  abbrev Starts : ℕ → Outcome → Type 0
  Starts p o = Begun r area ios tables p (left_by o)

  granted_begun : Granted s.desk s.core r area ios tables
      → Starts (lowest_free (holders s.desk)) (opened s.desk s.core r area ios tables)
  unfolding opened
  granted_begun g =
      let i = area-inside s r area ios tables g in record {
        ready = granted_ready s r area ios tables g;
        holder = opened_holder s.desk g.desk r area ios tables g.room g.given g.fit g.obey;
        load = opened-load s.desk g.desk r area ios tables g.room g.given g.fit g.obey;
        stage = opened-stage s.desk g.desk r area ios tables g.room g.given g.fit g.obey;
        inside = rw (length-cleared s.core area.at.0 area.size i) i;
        tables-inside = (lists_obey_lem area ios tables g.obey).inside;
        zeros = cleared-zero s.core area.at.0 area.size i;
      }

  open_begun : (p : ℕ) → (open_of s.desk s.core r area ios tables).answer ≡ Opened p
      → Starts p (open_of s.desk s.core r area ios tables)
  unfolding opened
  open_begun p e =
      ⊎_elim
      (λ x. absurd (false≢true (ap (λ (o : Outcome). is_opened o.answer) (sym x.1) ∙ ap is_opened e)))
      (λ x. let q : lowest_free (holders s.desk) ≡ p = ap (λ (o : Outcome). value_of o.answer) (sym x.1) ∙ ap value_of e in
      subst (Starts p) (sym x.1)
      (subst (λ (k : ℕ). Starts k (opened s.desk s.core r area ios tables)) q (granted_begun x.0)))
      (open_sorted s.desk s.core r area ios tables)

pub begun : (o : Opening) → IsGranted o → Begun o.room o.area o.ios o.tables o.place (after_open o)
unfolding answer_to call
begun o e = open_begun o.before o.room o.area o.ios o.tables o.place e
