-- `book::records::spelled` meets its contract: at every turn the bytes that are left make the number of all.
use Rattle.std.proofs.Common.{◌≡◌, ◌^◌, ◌<◌, drop}
use Rattle.book.specs.HowKept.{spelled}
use Rattle.book.proofs.records.spelled.Given as goal

abbrev pub invariant-loop-b : goal.invariant-loop-b
invariant-loop-b g l = (l.n < 256 ^ l.b-index) × (spelled g.row.BASE g.row.ZERO 0 l.bytes ≡ spelled g.row.BASE g.row.ZERO l.n (drop l.b-index l.bytes))
