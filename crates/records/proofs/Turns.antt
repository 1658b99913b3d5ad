-- The loop over the tables of a modification block: those passed fit, so the first that does not is the one that is told.
use Prim.Native.Nat.{ℕ, ◌+◌, ◌<◌}
use mathlib.Core.Path.{◌≡◌, refl, sym, ap, ◌∙◌}
use mathlib.Core.Bool.{Bool, true, false}
use mathlib.Core.List.{List}
use native.Mathlib.Omega.{arith}
use native.Mathlib.Numerals.{add-one}
use lib.ListN.{length, get_or}
use borrow.Author.Tests.{eq-eqb, ne_eqb}
use Rattle.word.specs.declared.Fault.{Fault}
use Rattle.word.proofs.Cases.{when}
use Rattle.word.proofs.First.{AllBelow, below_none, below_more, first-all, first-at}
use Rattle.lists.specs.declared.Given.{Given}
use Rattle.lists.specs.declared.Table.{Table as CoreTable}
use Rattle.lists.specs.Load.{core_table, core_tables, Readable}
use Rattle.lists.specs.Obey.{no_table}
use Rattle.lists.proofs.Reading.{core_at_lem}
use Rattle.modification.specs.Entries.{length_spot, minimum, length_fits}
use Rattle.modification.specs.declared.Spot.{Spot}
use Rattle.records.specs.Entries.{entry_fits, first_entry, entries_fit, entry_fault}
use Rattle.records.specs.HowEntries.{entry_read, entries_read}
use Rattle.word.specs.Fault.{Verdict, pass}
use Rattle.std.specs.Prelude.{Err}

-- ---- table t's entry, whose third word stands at the spot s
module _ (g : Given) (l : List ℕ) (exact : Bool) (b : ℕ) (block : List ℕ) (t : ℕ) (s : Spot)
    (o : s ≡ length_spot g.io (record { 0 = t })) where
  pub fits_elsewhere : (s.block ≡ b → ⊥) → entry_fits g.io (core_tables g l) exact b block t ≡ true
  unfolding entry_fits
  fits_elsewhere h = let k = rw o at h in rw (ne_eqb _ _ k)

  pub fits-here : Readable g l → t < g.tables → s.block ≡ b → (m : ℕ) → m ≡ minimum (get_or block s.word 0)
      → (x : CoreTable) → x ≡ core_table g l t → (v : Bool) → v ≡ length_fits exact m x.len
      → entry_fits g.io (core_tables g l) exact b block t ≡ v
  unfolding entry_fits
  fits-here r h e m q x y v k =
      let i = rw o at e in
      let n = rw o at q in
      rw (eq-eqb _ _ i)
      (ap (λ (z : CoreTable). length_fits exact (minimum (get_or block (length_spot g.io (record { 0 = t })).word 0)) z.len)
      (core_at_lem g l r t no_table h ∙ sym y)
      ∙ ap (λ (j : ℕ). length_fits exact j x.len) (sym n)
      ∙ sym k)

-- ---- all of them
module _ (io : ℕ) (ts : List CoreTable) (exact : Bool) (b : ℕ) (block : List ℕ) where
  -- the first t tables' entries fit
  unfoldable pub PassedTo : ℕ → Type 0
  PassedTo t = AllBelow (entry_fits io ts exact b block) t

  pub passed_none : PassedTo 0
  unfolding PassedTo
  passed_none = below_none (entry_fits io ts exact b block)

  module _ (t : ℕ) (p : PassedTo t) where
    entry_good : entry_read io ts exact b block t ≡ pass → entry_fits io ts exact b block t ≡ true
    unfolding entry_read
    entry_good =
        when (λ (r : Verdict). r ≡ pass → entry_fits io ts exact b block t ≡ true) (entry_fits io ts exact b block t) (λ q e. q)
        (λ q e. let z : ◌≡◌ {A = ℕ} 0 1 = cc in absurd (omega arith))

    entry_bad : (f : Fault) → entry_read io ts exact b block t ≡ Err f
        → (entry_fits io ts exact b block t ≡ false) × (f ≡ entry_fault io t)
    unfolding entry_read
    entry_bad f =
        when (λ (r : Verdict). r ≡ Err f → (entry_fits io ts exact b block t ≡ false) × (f ≡ entry_fault io t))
        (entry_fits io ts exact b block t)
        (λ q e. let z : ◌≡◌ {A = ℕ} 0 1 = cc in absurd (omega arith))
        (λ q e. (q, cc))

    pub passed_more : entry_read io ts exact b block t ≡ pass → PassedTo (t + 1)
    unfolding PassedTo
    passed_more e = rw (add-one t) (below_more (entry_fits io ts exact b block) t p (entry_good e))

    pub passed_fails : (f : Fault) → t < length ts → entry_read io ts exact b block t ≡ Err f
        → Err f ≡ entries_read io ts exact b block
    unfolding PassedTo entries_read entries_fit first_entry
    passed_fails f h e =
        let g = entry_bad f e in
        let k = first-at (entry_fits io ts exact b block) (length ts) t h p g.0 in
        rw (k, ne_eqb t (length ts) (λ z. omega arith), g.1)

    pub passed_all : t ≡ length ts → pass ≡ entries_read io ts exact b block
    unfolding PassedTo entries_read entries_fit first_entry
    passed_all e =
        let k = first-all (entry_fits io ts exact b block) (length ts) (rw e at p) in
        rw (k, eq-eqb (length ts) (length ts) refl)

  -- ---- what the block is answered with
  pub entries_good : entries_read io ts exact b block ≡ pass → entries_fit io ts exact b block ≡ true
  unfolding entries_read
  entries_good =
      when (λ (r : Verdict). r ≡ pass → entries_fit io ts exact b block ≡ true) (entries_fit io ts exact b block) (λ q e. q)
      (λ q e. let z : ◌≡◌ {A = ℕ} 0 1 = cc in absurd (omega arith))

  pub entries_bad : (f : Fault) → entries_read io ts exact b block ≡ Err f
      → (entries_fit io ts exact b block ≡ false) × (f ≡ entry_fault io (first_entry io ts exact b block))
  unfolding entries_read
  entries_bad f =
      when (λ (r : Verdict). r ≡ Err f
      → (entries_fit io ts exact b block ≡ false) × (f ≡ entry_fault io (first_entry io ts exact b block)))
      (entries_fit io ts exact b block)
      (λ q e. let z : ◌≡◌ {A = ℕ} 0 1 = cc in absurd (omega arith))
      (λ q e. (q, cc))
