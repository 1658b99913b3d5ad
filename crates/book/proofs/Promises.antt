-- What is promised of assign.
use Prim.Native.Nat.{ℕ, ◌+◌, ◌*◌, ◌/◌, ◌%◌, ◌<◌}
use mathlib.Core.Path.{◌≡◌, refl, sym, ap, ◌∙◌}
use mathlib.Core.Bool.{true}
use mathlib.Core.List.{List}
use native.Mathlib.Omega.{arith}
use lib.ListN.{length, get_or}
use borrow.Author.Tests.{eq-eqb}
use Rattle.word.specs.Lists.{every, every_two}
use Rattle.word.specs.Fault.{fault, pass}
use Rattle.word.specs.declared.Fault.{Fault}
use Rattle.word.proofs.Cases.{by-test, both, and_left, and_right, and_both}
use Rattle.word.proofs.Every.{every-place, every_by}
use Rattle.word.proofs.Lists.{length-tab, get_d_tab}
use Rattle.std.specs.Prelude.{Result, Ok, Err}
use Rattle.label.specs.Label.{io_count}
use Rattle.label.specs.declared.Label.{Label}
use Rattle.modification.specs.Assignments.{assignments_fit}
use Rattle.front.specs.Front.{front_of}
use Rattle.book.specs.Book.{assignments_of}
use Rattle.book.specs.Tags.{entries_of, tag_of, tags_of, file_tags}
use Rattle.book.specs.Assign.{in_file, apart_from, is_given, all_given, number_for, io_list, kind_in_pair, table_list, fits}
use Rattle.book.specs.Assign.{ListsLeft, refused_with, lists_for, assign_by, assign_of}
use Rattle.book.specs.Allows.{Gives, Allows}
use Rattle.book.specs.Promises.{Assignable, AssignedExactly, AssignedAllowed, RefusedUntouched, CountsFit}
use Rattle.book.specs.declared.Assignment.{Assignment}
use Rattle.book.specs.declared.Kind.{Kind}
use Rattle.book.specs.declared.Kind.TheVariants.{Address, Length, Peripheral}
use Rattle.book.proofs.Kept.{tags_long, tags_at, of_file}
use Rattle.book.proofs.Only.{gives-given, given-gives}

-- ---- each tag of the file is given
module _ (rs : List Assignment) (blocks : List ℕ) (l : Label) where
  given-kind : (k : Kind) → all_given rs (file_tags blocks l) ≡ true → every (is_given rs k) (tags_of blocks l k) ≡ true
  unfolding all_given
  given-kind Peripheral q = and_left (every (is_given rs Peripheral) (tags_of blocks l Peripheral)) _ q
  given-kind Address q =
      and_left (every (is_given rs Address) (tags_of blocks l Address)) _
      (and_right (every (is_given rs Peripheral) (tags_of blocks l Peripheral)) _ q)
  given-kind Length q =
      and_right (every (is_given rs Address) (tags_of blocks l Address)) _
      (and_right (every (is_given rs Peripheral) (tags_of blocks l Peripheral)) _ q)

  given-tag : (k : Kind) (j : ℕ) → j < entries_of l k → all_given rs (file_tags blocks l) ≡ true
      → is_given rs k (tag_of blocks l k j) ≡ true
  given-tag k j h q =
      rw (tags_at blocks l k j h) at
      (every-place 0 (is_given rs k) (tags_of blocks l k) j (omega (arith, tags_long blocks l k)) (given-kind k q))

  kind-given : (k : Kind) → ((j : ℕ) → j < entries_of l k → is_given rs k (tag_of blocks l k j) ≡ true)
      → every (is_given rs k) (tags_of blocks l k) ≡ true
  kind-given k f =
      let n = tags_long blocks l k in
      every_by 0 (is_given rs k) (tags_of blocks l k) (λ j h. rw (tags_at blocks l k j (omega arith)) (f j (omega arith)))

  -- where lists are allowed
  pub allows_given : (io tables : List ℕ) → Allows rs blocks l io tables → all_given rs (file_tags blocks l) ≡ true
  unfolding all_given
  allows_given io tables a =
      and_both (every (is_given rs Peripheral) (tags_of blocks l Peripheral)) _
      (kind-given Peripheral (λ j h. gives-given rs Peripheral _ _ (a.channel j h)))
      (and_both (every (is_given rs Address) (tags_of blocks l Address)) (every (is_given rs Length) (tags_of blocks l Length))
      (kind-given Address (λ j h. gives-given rs Address _ _ (a.address j h)))
      (kind-given Length (λ j h. gives-given rs Length _ _ (a.len j h))))

  -- the definition's lists are allowed
  module _ (once : every_two apart_from rs ≡ true) (all : all_given rs (file_tags blocks l) ≡ true) where
    gives_at : (k : Kind) (j : ℕ) → j < entries_of l k → Gives rs k (tag_of blocks l k j) (number_for rs k (tag_of blocks l k j))
    gives_at k j h = given-gives rs k (tag_of blocks l k j) once (given-tag k j h all)

    io-at : (j : ℕ) → j < io_count l
        → get_or (io_list rs (file_tags blocks l)) j 0 ≡ number_for rs Peripheral (tag_of blocks l Peripheral j)
    unfolding io_list
    io-at j h =
        get_d_tab _ (length (tags_of blocks l Peripheral)) j 0 (omega (arith, tags_long blocks l Peripheral))
        ∙ ap (number_for rs Peripheral) (tags_at blocks l Peripheral j h)

    table-at : (i : ℕ) (k : Kind) → kind_in_pair i ≡ k → i < 2 * l.tables → i / 2 < entries_of l k
        → get_or (table_list rs (file_tags blocks l)) i 0 ≡ number_for rs k (tag_of blocks l k (i / 2))
    unfolding table_list
    table-at i k e h g =
        get_d_tab _ (2 * length (tags_of blocks l Address)) i 0 (omega (arith, tags_long blocks l Address))
        ∙ rw (e, of_file blocks l k, tags_at blocks l k (i / 2) g)

    first_kind : (t : ℕ) → kind_in_pair (2 * t) ≡ Address
    first_kind t = let e : 2 * t % 2 ≡ 0 = omega arith in rw e

    second-kind : (t : ℕ) → kind_in_pair (2 * t + 1) ≡ Length
    second-kind t = let e : (2 * t + 1) % 2 ≡ 1 = omega arith in rw e

    pub lists_allowed : Allows rs blocks l (io_list rs (file_tags blocks l)) (table_list rs (file_tags blocks l))
    unfolding io_list table_list
    lists_allowed = record {
      io-long = length-tab _ (length (tags_of blocks l Peripheral)) ∙ tags_long blocks l Peripheral;
      tables-long = length-tab _ (2 * length (tags_of blocks l Address)) ∙ ap (λ (n : ℕ). 2 * n) (tags_long blocks l Address);
      channel = λ r h. rw (io-at r h) (gives_at Peripheral r h);
      address = λ t h.
          let e : 2 * t / 2 ≡ t = omega arith in
          rw (rw e at (table-at (2 * t) Address (first_kind t) (omega arith) (omega arith))) (gives_at Address t h);
      len = λ t h.
          let e : (2 * t + 1) / 2 ≡ t = omega arith in
          rw (rw e at (table-at (2 * t + 1) Length (second-kind t) (omega arith) (omega arith))) (gives_at Length t h);
    }

-- ---- what an answer tells of what was due
never : (f : Fault) → Err f ≡ pass → ⊥
never f e = let z : ◌≡◌ {A = ℕ} 0 1 = cc in omega arith

fault_passes : (book blocks : List ℕ) (f : Fault) (io tables : List ℕ) → (assign_by book blocks (Err f) io tables).answer ≡ pass → ⊥
unfolding assign_by
fault_passes book blocks f io tables e = never f e

module _ (book blocks : List ℕ) (l : Label) (io tables : List ℕ) where
  -- *assigned* tells that nothing was
  pub record Passed : Type 0 where
    pub fit : fits book l io tables ≡ true
    pub in_file_lem : every (in_file (file_tags blocks l)) (assignments_of book) ≡ true
    pub once : every_two apart_from (assignments_of book) ≡ true
    pub all : all_given (assignments_of book) (file_tags blocks l) ≡ true

  passed : (assign_by book blocks (Ok l) io tables).answer ≡ pass → Passed
  unfolding assign_by lists_for
  passed e =
      by-test (fits book l io tables)
      (λ p. by-test (every (in_file (file_tags blocks l)) (assignments_of book))
      (λ q. by-test (every_two apart_from (assignments_of book))
      (λ r. by-test (all_given (assignments_of book) (file_tags blocks l))
      (λ s. record { fit = p; in_file_lem = q; once = r; all = s })
      (λ s. absurd (never (fault 27) (rw (p, q, r, s) at e))))
      (λ r. absurd (never (fault 26) (rw (p, q, r) at e))))
      (λ q. absurd (never (fault 25) (rw (p, q) at e))))
      (λ p. absurd (never (fault 24) (rw p at e)))

  pub assigned_left : Passed → assign_by book blocks (Ok l) io tables
      ≡ record {
        answer = pass;
        io = io_list (assignments_of book) (file_tags blocks l);
        tables = table_list (assignments_of book)
            (file_tags blocks l);
      }
  unfolding assign_by lists_for
  assigned_left p = rw (p.fit, p.in_file_lem, p.once, p.all)

-- of any label that a front may have
passed_front : (book blocks : List ℕ) (r : Result Label Fault) (io tables : List ℕ) → front_of blocks ≡ r
    → (assign_by book blocks r io tables).answer ≡ pass → Assignable book blocks io tables
passed_front book blocks (Ok l) io tables e q =
    let p = passed book blocks l io tables q in
    record {
      label = l;
      none-due = record { front = e; fit = p.fit; in_file_lem = p.in_file_lem; once = p.once };
      some_lists = record {
        io = io_list (assignments_of book) (file_tags blocks l);
        tables = table_list (assignments_of book) (file_tags blocks l);
        allows = lists_allowed (assignments_of book) blocks l p.once p.all;
      };
    }
passed_front book blocks (Err f) io tables e q = absurd (fault_passes book blocks f io tables q)

pub assigned_exactly : AssignedExactly
unfolding assign_of
assigned_exactly book blocks io tables = (
  λ q. passed_front book blocks (front_of blocks) io tables refl q,
  λ a. let d = a.none-due in
      let g = allows_given (assignments_of book) blocks a.label a.some_lists.io a.some_lists.tables
      a.some_lists.allows in
      rw d.front
      (ap (λ (o : ListsLeft). o.answer)
      (assigned_left book blocks a.label io tables (record { fit = d.fit; in_file_lem = d.in_file_lem; once = d.once; all = g }))),
)

pub assigned_allowed : AssignedAllowed
unfolding assign_of
assigned_allowed book blocks io tables l e q =
    let p = passed book blocks l io tables (rw e at q) in
    rw (e, assigned_left book blocks l io tables p) (lists_allowed (assignments_of book) blocks l p.once p.all)

-- ---- a refusal leaves the lists
module _ (io tables : List ℕ) where
  abbrev Kept : ListsLeft → Type 0
  Kept o = (f : Fault) → o.answer ≡ Err f → (o.io ≡ io) × (o.tables ≡ tables)

  kept_with : (n : ℕ) → Kept (refused_with n io tables)
  kept_with n f e = (refl, refl)

  kept_by : (book blocks : List ℕ) (r : Result Label Fault) → Kept (assign_by book blocks r io tables)
  unfolding assign_by lists_for
  kept_by book blocks (Ok l) =
      both Kept (fits book l io tables)
      (both Kept (every (in_file (file_tags blocks l)) (assignments_of book))
      (both Kept (every_two apart_from (assignments_of book))
      (both Kept (all_given (assignments_of book) (file_tags blocks l))
      (λ f e. absurd (never f (sym e)))
      (kept_with 27))
      (kept_with 26))
      (kept_with 25))
      (kept_with 24)
  kept_by book blocks (Err f) = λ g e. (refl, refl)

pub refused-untouched : RefusedUntouched
unfolding assign_of
refused-untouched book blocks io tables f e = kept_by io tables book blocks (front_of blocks) f e

-- ---- the counts
pub counts_fit_lem : CountsFit
unfolding assignments_fit
counts_fit_lem rs blocks l io tables a =
    let e = a.tables-long in
    rw (eq-eqb (length io) (io_count l) a.io-long, eq-eqb (length tables / 2) l.tables (omega arith))
