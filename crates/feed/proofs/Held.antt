-- What a sound desk says of the load at a held place: it waits for a block, in the sense that the block's step asks for.
use Prim.Native.Nat.{ℕ, ◌+◌, ◌≤◌, ◌<◌}
use mathlib.Core.Path.{◌≡◌}
use mathlib.Core.Bool.{true}
use mathlib.Core.List.{List}
use lib.ListN.{length}
use Rattle.word.specs.Limits.{words_in_block, place_count}
use Rattle.word.specs.Lists.{every}
use Rattle.word.specs.Word.{is_word}
use Rattle.word.proofs.Cases.{and_left}
use Rattle.lists.proofs.Reading.{io-length}
use Rattle.lists.specs.Obey.{table_inside, tables_obey}
use Rattle.stage.specs.declared.Stage.{Stage}
use Rattle.layout.specs.Layout.{core_length, holder_in, place_in, stage_in}
use Rattle.desk.specs.Sound.{sound, given_in, lists_held, HeldFacts}
use Rattle.desk.proofs.Facts.{held_readable, held_facts}
use Rattle.lists.specs.Load.{Load}
use Rattle.sections.specs.Waits.{Waits, KeptWaits}
use Rattle.feed.specs.Feed.{load_in}
use Rattle.feed.proofs.Laws.{FitToFeed}

-- a load that waits for a block fits
pub fit_waiting : (x : Load) (s : Stage) (block core : List ℕ) → Waits x s block core → FitToFeed x s
fit_waiting x s block core w = record { tables = w.tables; stage = w.stage }

module _ (d : List ℕ) (s : sound d ≡ true) (p : ℕ) (h : p < place_count) (z : holder_in d p ≡ 0 → ⊥) where
  facts : HeldFacts d p
  facts = held_facts d s p h z

  pub held-inside : (load_in (place_in d p)).area.at.0 + (load_in (place_in d p)).area.size ≤ core_length d
  unfolding load_in
  held-inside = facts.inside

  tables-inside : every (table_inside (load_in (place_in d p)).area) (load_in (place_in d p)).tables ≡ true
  unfolding load_in tables_obey
  tables-inside = and_left _ _ facts.obey

  pub held_fit : FitToFeed (load_in (place_in d p)) (stage_in (place_in d p))
  held_fit = record {
    tables = tables-inside;
    stage = unfold load_in in (rw (io-length (given_in d p) (lists_held d p)) facts.stage);
  }

  -- and so does its whole block
  pub held_waits : (block core : List ℕ) → length core ≡ core_length d → length block ≡ words_in_block → every is_word block ≡ true
      → Waits (load_in (place_in d p)) (stage_in (place_in d p)) block core
  held_waits block core e l w = record {
    inside = rw e held-inside;
    most = rw e facts.core;
    io = unfold load_in in (rw (io-length (given_in d p) (lists_held d p)) facts.io);
    few = unfold load_in in (rw facts.count facts.tables);
    tables = held_fit.tables;
    stage = held_fit.stage;
    long = l;
    words = w;
  }

  pub held-kept_waits : (block core : List ℕ) → length core ≡ core_length d → length block ≡ words_in_block → every is_word block ≡ true
      → KeptWaits (given_in d p) (lists_held d p) (stage_in (place_in d p)) block core
  held-kept_waits block core e l w =
      record { lists = held_readable d s p h z; waits = unfold load_in in (held_waits block core e l w) }
