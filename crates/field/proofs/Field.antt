-- What a field becomes and what becomes of its word, proved once for either half.
use Rattle.std.specs.Prelude.{Result, Ok, Err, Option, None}
use mathlib.Core.Path.{◌≡◌, refl, sym, ap, ◌∙◌}
use mathlib.Core.Bool.{Bool, true, false}
use mathlib.Core.List.{List}
use mathlib.Core.Logic.{◌⊎◌, ◌≢◌}
use Prim.Native.Nat.{ℕ, ◌+◌, ◌-◌, ◌<◌, ◌≤◌, ◌^◌}
use native.Mathlib.Omega.{arith}
use lib.ListN.{length, get_or}
use lib.Dec.{ltb, leb, eqb}
use borrow.Author.Tests.{ltb-true, eqb-true, ne_eqb}
use Rattle.word.specs.declared.Area.{Area}
use Rattle.word.specs.declared.Fault.{Fault}
use Rattle.word.specs.declared.Half.{Half}
use Rattle.word.specs.declared.Half.TheVariants.{Left, Right}
use Rattle.word.specs.declared.Reference.{Reference}
use Rattle.word.specs.declared.Relative.{Relative}
use Rattle.word.specs.Fault.{fault}
use Rattle.word.specs.Word.{part, put, bit, is_set, lowest, field_of, a_field}
use Rattle.word.proofs.Word.{across, across-stored, part_below, part-put, bit-put, stored_word, a-stored_word}
use Rattle.word.proofs.Cases.{both, when, by-eq, and_left}
use Rattle.lists.specs.declared.Table.{Table}
use Rattle.lists.specs.declared.Given.{Given}
use Rattle.lists.specs.Load.{core_table, core_tables, Readable}
use Rattle.lists.proofs.Reading.{core_at_lem, core_below}
use Rattle.field.specs.Field.{Assignments, valued, plus_or_minus, moved_field, table, address_or_length, referred, pair, minus_zero}
use Rattle.field.specs.Field.{short, long, constant, switch, unit, reference, relative, becomes, changed_lowest, changed_width}
use Rattle.field.specs.Field.{put_back, field_change, told_in, Fits}
use Rattle.field.specs.declared.Stepped.{Stepped}
use Rattle.field.specs.HowField.{is_long, stepped}

-- ---- a table of the kept lists
address-or-length_below : (sized : Bool) (t : Table) → (t.at.0 < 2 ^ 24) × (t.len < 2 ^ 20) → address_or_length sized t < 2 ^ 24
address-or-length_below sized t h = both (λ (n : ℕ). n < 2 ^ 24) sized (omega arith) h.0

pub address-or-length-kept : (sized : Bool) (g : Given) (l : List ℕ) (k : Reference) (t : Table) → Readable g l → k.0 < g.tables
    → t ≡ core_table g l k.0 → (address_or_length sized t ≡ address_or_length sized (table (core_tables g l) k))
    × (address_or_length sized t < 2 ^ 24)
unfolding table
address-or-length-kept sized g l k t r h e =
    rw (e, core_at_lem g l r k.0 _ h)
    (refl, address-or-length_below sized (core_table g l k.0) (core_below g l r k.0))

-- ---- whatever the changed bits become fits them: 16 bits, or 4 for type 100
valued_fits : (v : ℕ) → Fits 16 (valued v)
unfolding valued
valued_fits v = when (Fits 16) (ltb v 65536) (ltb-true v 65536) (λ q. tt)

pub moved_fits : (area : Area) (r : Relative) → Fits 16 (moved_field area r)
unfolding moved_field
moved_fits area r = valued_fits _

plus-or-minus-fits : (minus : Bool) (base amount : ℕ) → Fits 16 (plus_or_minus minus base amount)
unfolding plus_or_minus
plus-or-minus-fits minus base amount =
    both (Fits 16) minus (both (Fits 16) (leb amount base) (valued_fits (base - amount)) tt) (valued_fits (base + amount))

module _ (ts : List Table) where
  referred-fits : (sized : Bool) (k : Reference) (minus : Bool) (amount : ℕ) → Fits 16 (referred ts sized k minus amount)
  unfolding referred
  referred-fits sized k minus amount = both (Fits 16) (ltb k.0 (length ts)) (plus-or-minus-fits minus _ amount) tt

  pub pair_fits : (f : ℕ) → Fits 16 (pair ts f)
  unfolding pair
  pair_fits f = both (Fits 16) (is_set 15 f) tt (both (Fits 16) (ltb (part 0 7 f) (length ts)) (referred-fits false _ _ _) tt)

  pub long-fits : (f x : ℕ) → Fits 16 (long ts f x)
  unfolding long
  long-fits f x = both (Fits 16) (ltb (part 0 14 f) 64) tt (both (Fits 16) (is_set 7 x) tt (referred-fits _ _ _ _))

  pub short-fits : (f : ℕ) → Fits 16 (short ts f)
  unfolding short
  short-fits f = both (Fits 16) (minus_zero (is_set 14 f) (part 0 6 f)) tt (referred-fits _ _ _ _)

  constant-fits : (f x : ℕ) → Fits 16 (constant ts f x)
  unfolding constant
  constant-fits f x = both (Fits 16) (is_set 15 f) (long-fits f x) (short-fits f)

module _ (ios : List ℕ) (channels : ℕ) where
  pub switch_fits : (h : Half) (k : Reference) → Fits 4 (switch ios channels h k)
  unfolding switch
  switch_fits Left k = both (Fits 4) (leb channels k.0) tt (part_below 0 4 (get_or ios k.0 0))
  switch_fits Right k = tt

  pub unit-fits : (k : Reference) → Fits 16 (unit ios channels k)
  unfolding unit
  unit-fits k =
      both (Fits 16) (ltb k.0 channels) tt (both (Fits 16) (ltb k.0 (length ios)) (valued_fits (get_or ios k.0 0)) tt)

pub becomes-fits : (a : Assignments) (h : Half) (t w x : ℕ) → Fits (changed_width t) (becomes a h t w x)
unfolding becomes
becomes-fits a h t w x = by-eq t 4
    (λ e. rw e (switch_fits a.ios a.channels h (reference (a_field w))))
    (λ n. rw (ne_eqb t 4 n)
    (both (Fits 16) (eqb t 0) (moved_fits a.area (relative (field_of h w)))
    (both (Fits 16) (eqb t 1) (pair_fits a.tables (field_of h w))
    (both (Fits 16) (eqb t 2) (constant-fits a.tables (field_of h w) x)
    (both (Fits 16) (eqb t 7) (unit-fits a.ios a.channels (reference (field_of h w))) tt)))))

-- what a change gives fits: for what puts it back
pub ruleset fitting = (moved_fits, pair_fits, long-fits, short-fits, switch_fits, unit-fits)

-- ---- an arm of the match over the type, the same for either half: what its calls give is the step of its type
module _ (a : Assignments) (h : Half) (w x : ℕ) {t f : ℕ} {b : Result ℕ Fault} (read : f ≡ field_of h w) where
  pub moved_arm : t ≡ 0 → b ≡ moved_field a.area (relative f) → put_back (lowest h) 16 w b ≡ field_change a h t w x
  unfolding field_change becomes
  moved_arm e q = rw (q, read, e)

  pub pair_arm : t ≡ 1 → b ≡ pair a.tables f → put_back (lowest h) 16 w b ≡ field_change a h t w x
  unfolding field_change becomes
  pair_arm e q = rw (q, read, e)

  pub long_arm : t ≡ 2 → is_set 15 f ≡ true → b ≡ long a.tables f x → put_back (lowest h) 16 w b ≡ field_change a h t w x
  unfolding field_change becomes constant
  long_arm e i q = rw (q, e, ← read, i)

  pub short_arm : t ≡ 2 → is_set 15 f ≡ false → b ≡ short a.tables f → put_back (lowest h) 16 w b ≡ field_change a h t w x
  unfolding field_change becomes constant
  short_arm e i q = rw (q, e, ← read, i)

  pub unit_arm : t ≡ 7 → b ≡ unit a.ios a.channels (reference f) → put_back (lowest h) 16 w b ≡ field_change a h t w x
  unfolding field_change becomes
  unit_arm e q = rw (q, read, e)

-- type 100: of a left half, whose bits 25-22 it changes
pub switch_arm : (a : Assignments) (w x : ℕ) {t k : ℕ} {b : Result ℕ Fault} → k ≡ a_field w → t ≡ 4
    → b ≡ switch a.ios a.channels Left (reference k) → put_back 22 4 w b ≡ field_change a Left t w x
unfolding field_change becomes
switch_arm a w x read e q = rw (q, read, e)

pub switch_right : (a : Assignments) (w x : ℕ) {t : ℕ} → t ≡ 4 → Err (fault 19) ≡ field_change a Right t w x
unfolding field_change becomes switch put_back
switch_right a w x e = rw e

-- "Others are 19."
pub others : (a : Assignments) (h : Half) (t w x : ℕ) → t ≢ 0 → t ≢ 1 → t ≢ 2 → t ≢ 4 → t ≢ 7
    → Err (fault 19) ≡ field_change a h t w x
unfolding field_change becomes put_back
others a h t w x p q r m s = rw (ne_eqb t 0 p, ne_eqb t 1 q, ne_eqb t 2 r, ne_eqb t 4 m, ne_eqb t 7 s)

-- three bits that are none of 0 to 6 are 7
some : (t : ℕ) → t ≢ 0 → 1 ≤ t
some t n = omega arith

past : (k t : ℕ) → k ≤ t → t ≢ k → k + 1 ≤ t
past k t h n = omega arith

top : (t : ℕ) → 7 ≤ t → t < 8 → t ≡ 7
top t h l = omega arith

pub last_type : (t : ℕ) → t ≢ 0 → t ≢ 1 → t ≢ 2 → t ≢ 3 → t ≢ 4 → t ≢ 5 → t ≢ 6 → t < 8 → t ≡ 7
last_type t n0 n1 n2 n3 n4 n5 n6 =
    top t (past 6 t (past 5 t (past 4 t (past 3 t (past 2 t (past 1 t (some t n0) n1) n2) n3) n4) n5) n6)

-- ---- where only the word is wanted, by type k: a long type 010 tells itself, and a refusal loses its number
pub long_by : {f g : ℕ} {b : Bool} → f ≡ g → is_set 15 f ≡ b → is_long 2 g ≡ b
long_by read i = rw (← read) i

module _ (a : Assignments) (h : Half) (t w x : ℕ) where
  pub word_arm : (k : ℕ) {long : Bool} {c : Result ℕ Fault} {r : Option Stepped} → t ≡ k → is_long k (field_of h w) ≡ long → r ≡ stepped long c
      → c ≡ field_change a h t w x
      → r ≡ stepped (is_long t (field_of h w)) (field_change a h t w x)
  word_arm k e i back q = back ∙ rw (← q, e, i)

  pub refused_arm : (k : ℕ) → t ≡ k → Err (fault 19) ≡ field_change a h k w x
      → None ≡ stepped (is_long t (field_of h w)) (field_change a h t w x)
  refused_arm k e q = rw (e, ← q)

  -- the nine more bits are read by a long type 010 alone
  pub step_short : is_long t (field_of h w) ≡ false → field_change a h t w x ≡ field_change a h t w 0
  unfolding field_change becomes constant
  step_short i = by-eq t 2
      (λ e. let n : is_set 15 (field_of h w) ≡ false = rw e at i in rw (e, n))
      (λ n. rw (ne_eqb t 2 n))

pub step_two : (t f : ℕ) → is_long t f ≡ true → t ≡ 2
step_two t f i = eqb-true t 2 (and_left (eqb t 2) (is_set 15 f) i)

-- ---- what becomes of the word: u is w with, in its n bits from bit k up, the value that b gives
pub record Stored (k n w : ℕ) (b : Result ℕ Fault) (u : ℕ) : Type 0 where
  pub value : ℕ
  pub given : b ≡ Ok value
  pub fits : value < 2 ^ n
  pub word : u ≡ put k n w value

back_stored : (k n w : ℕ) (b : Result ℕ Fault) (u : ℕ) → Fits n b → put_back k n w b ≡ Ok u → Stored k n w b u
unfolding put_back
back_stored k n w (Ok v) u f e = record { value = v; given = refl; fits = f; word = cc }
back_stored k n w (Err x) u f e = let z : ◌≡◌ {A = ℕ} 0 1 = cc in absurd (omega arith)

put_word : (h : Half) (t w v : ℕ) → w < 2 ^ 36 → v < 2 ^ changed_width t → put (changed_lowest h t) (changed_width t) w v < 2 ^ 36
put_word h t w v = by-eq t 4 (λ e. rw e (a-stored_word w v)) (λ n. rw (ne_eqb t 4 n) (stored_word h w v))

-- only a left half has type 100, and that leaves the right field alone
switch-left : (a : Assignments) (h : Half) (t w x v : ℕ) → t ≡ 4 → becomes a h t w x ≡ Ok v → h ≡ Left
unfolding becomes switch
switch-left a Left t w x v q g = refl
switch-left a Right t w x v q g =
    let b : becomes a Right 4 w x ≡ Ok v = rw q at g in
    let z : ◌≡◌ {A = ℕ} 0 1 = cc in
    absurd (omega arith)

across-kept : (h : Half) (t w v : ℕ) → (t ≡ 4 → h ≡ Left) → v < 2 ^ changed_width t
    → field_of (across h) (put (changed_lowest h t) (changed_width t) w v) ≡ field_of (across h) w
across-kept h t w v g = by-eq t 4
    (λ q. rw (q, g q) (λ f. omega arith))
    (λ n. rw (ne_eqb t 4 n) (across-stored h w v))

-- a refusal told with its place leaves a word as it is; and the last one told stands
pub word_told : (h : Half) (b : ℕ) (r : Result ℕ Fault) (u : ℕ) → told_in h b r ≡ Ok u → r ≡ Ok u
word_told h b (Ok v) u e = e
word_told h b (Err f) u e = let z : ◌≡◌ {A = ℕ} 0 1 = cc in absurd (omega arith)

pub told_anew : (h : Half) (b c : ℕ) (r : Result ℕ Fault) → told_in h b (told_in h c r) ≡ told_in h b r
told_anew h b c (Ok v) = refl
told_anew h b c (Err f) = refl

module _ (a : Assignments) (h : Half) (t w x u : ℕ) (e : field_change a h t w x ≡ Ok u) where
  pub step_stored : Stored (changed_lowest h t) (changed_width t) w (becomes a h t w x) u
  unfolding field_change
  step_stored = back_stored (changed_lowest h t) (changed_width t) w (becomes a h t w x) u (becomes-fits a h t w x) e

  -- the changed bits read back as the value
  pub step_reads : becomes a h t w x ≡ Ok (part (changed_lowest h t) (changed_width t) u)
  step_reads =
      let s = step_stored in
      s.given ∙ ap Ok (sym
      (ap (part (changed_lowest h t) (changed_width t)) s.word
      ∙ part-put (changed_lowest h t) (changed_width t) w s.value s.fits))

  -- a word stays a word
  pub step_word : w < 2 ^ 36 → u < 2 ^ 36
  step_word hw = let s = step_stored in rw s.word (put_word h t w s.value hw s.fits)

  -- every other bit is as it was
  pub step_bit : (j : ℕ) → (j < changed_lowest h t) ⊎ (changed_lowest h t + changed_width t ≤ j) → bit j u ≡ bit j w
  step_bit j o = let s = step_stored in rw s.word (bit-put (changed_lowest h t) (changed_width t) j w s.value s.fits o)

  -- and so is the other half's field
  pub step_across : field_of (across h) u ≡ field_of (across h) w
  step_across =
      let s = step_stored in
      rw s.word (across-kept h t w s.value (λ q. switch-left a h t w x s.value q s.given) s.fits)
