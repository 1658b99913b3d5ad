-- Which lists a book allows for a file (#101): a relation, which says for each entry which record gives it which number. It knows
-- of no order of tests, and of no first or last of equal tags: a number is given by the one record that is for the tag.
use Rattle.std.specs.Prelude.{ℕ, ◌+◌, ◌*◌, ◌<◌, ◌≡◌, List, length, get_or}
use Rattle.label.specs.Label.{io_count}
use Rattle.label.specs.declared.Label.{Label}
use Rattle.book.specs.Tags.{tag_of}
use Rattle.book.specs.Assign.{no_assignment}
use Rattle.book.specs.declared.Kind.{Kind}
use Rattle.book.specs.declared.Kind.TheVariants.{Address, Length, Peripheral}
use Rattle.book.specs.declared.Assignment.{Assignment}

-- the records give the tag w of kind k the number n: one of them says so, and no other is for that tag of that kind
pub record Gives (rs : List Assignment) (k : Kind) (w n : ℕ) : Type 0 where
  pub place : ℕ
  pub there : place < length rs
  pub says : get_or rs place no_assignment ≡ record { kind = k; tag = w; number = n }
  pub alone : (i : ℕ) → i < length rs → (get_or rs i no_assignment).kind ≡ k → (get_or rs i no_assignment).tag ≡ w → i ≡ place

-- the records allow these lists for the file whose label is l: "A finds a core entry's first word, L its second, P an I/O entry's
-- first". One record may give to several entries, which have the same tag
pub record Allows (rs : List Assignment) (blocks : List ℕ) (l : Label) (io tables : List ℕ) : Type 0 where
  pub io-long : length io ≡ io_count l
  pub tables-long : length tables ≡ 2 * l.tables
  pub channel : (r : ℕ) → r < io_count l → Gives rs Peripheral (tag_of blocks l Peripheral r) (get_or io r 0)
  pub address : (t : ℕ) → t < l.tables → Gives rs Address (tag_of blocks l Address t) (get_or tables (2 * t) 0)
  pub len : (t : ℕ) → t < l.tables → Gives rs Length (tag_of blocks l Length t) (get_or tables (2 * t + 1) 0)
