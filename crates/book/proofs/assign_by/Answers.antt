-- `book::assign_by` meets its contract: 24 by the lengths and the book, and then what looking up leaves.
use Prim.Native.Nat.{ℕ, ◌*◌}
use mathlib.Core.List.{List}
use Rattle.book.specs.HowKept.{kept_tags}
use mathlib.Core.Path.{refl, sym, ap, ◌∙◌}
use lib.ListN.{length}
use Rattle.book.proofs.Kept.{all-long, all-kept}
use Rattle.book.proofs.Answers.{io_unfit, tables_unfit, book_fit, gives_24, gives_on}
use Rattle.book.proofs.assign_by.Goals as goal

pub returns-then-io-count_of : goal.returns-then-io-count_of
returns-then-io-count_of c =
    let a = c.args in
    gives_24 _ _ _ _ _ (io_unfit a.book.now c.args.blocks.now a.l a.io.now a.tables.now
    (λ e. c.if-io-count_of.true (e ∙ sym c.count_of.ensures)))

pub returns-then-tables-count_of : goal.returns-then-tables-count_of
returns-then-tables-count_of c =
    let a = c.args in
    gives_24 _ _ _ _ _ (tables_unfit a.book.now c.args.blocks.now a.l a.io.now a.tables.now
    (c.if-io-count_of.false ∙ c.count_of.ensures)
    (λ e. c.if-tables-count_of.true (e ∙ sym (ap (λ (n : ℕ). 2 * n) c.count_of-2.ensures))))

pub returns-then-not-is_book : goal.returns-then-not-is_book
returns-then-not-is_book c =
    let a = c.args in
    gives_24 _ _ _ _ _ (book_fit a.book.now c.args.blocks.now a.l a.io.now a.tables.now _
    (c.if-io-count_of.false ∙ c.count_of.ensures)
    (c.if-tables-count_of.false ∙ ap (λ (n : ℕ). 2 * n) c.count_of-2.ensures)
    c.is_book.ensures
    ∙ c.if-not-is_book.true)

pub look_up-requires : goal.look_up-requires
look_up-requires c =
    let t = c.read_tags in
    record {
      look = record {
        right = sym c.is_book.ensures ∙ c.if-not-is_book.false;
        carried = c.requires;
        long = ap length t.ensures ∙ all-long c.args.blocks.now c.args.l c.requires _ refl;
      };
      io-long = c.if-io-count_of.false ∙ c.count_of.ensures;
      tables-long = c.if-tables-count_of.false ∙ ap (λ (n : ℕ). 2 * n) c.count_of-2.ensures;
    }

pub returns : goal.returns
returns c =
    let a = c.args in
    let t = c.read_tags in
    gives_on _ _ _ _ _ _ _ _ _
    (book_fit a.book.now c.args.blocks.now a.l a.io.now a.tables.now _
    (c.if-io-count_of.false ∙ c.count_of.ensures)
    (c.if-tables-count_of.false ∙ ap (λ (n : ℕ). 2 * n) c.count_of-2.ensures)
    c.is_book.ensures
    ∙ c.if-not-is_book.false)
    (ap (λ (k : List ℕ). kept_tags k a.l) t.ensures ∙ all-kept c.args.blocks.now a.l c.requires _ refl)
    c.look_up.ensures
