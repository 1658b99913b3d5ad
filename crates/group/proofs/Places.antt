-- Where a group's words go: by its section, and always in the area.
use mathlib.Core.Path.{◌≡◌}
use mathlib.Core.Bool.{Bool, true, false, cond, not}
use Prim.Native.Nat.{ℕ, ◌+◌, ◌≤◌}
use native.Mathlib.Omega.{arith}
use lib.Dec.{eqb}
use Rattle.word.specs.declared.Absolute.{Absolute}
use Rattle.word.specs.declared.Area.{Area}
use Rattle.word.specs.Runs.{within}
use Rattle.word.specs.Word.{part}
use Rattle.word.proofs.Cases.{and_right, when}
use Rattle.word.proofs.Says.{says_within}
use Rattle.word.proofs.Word.{part_below}
use Rattle.program.specs.declared.Bank.{Bank}
use Rattle.program.specs.declared.Group.{Group}
use Rattle.std.specs.Prelude.{Result, Ok, Err}
use Rattle.word.specs.declared.Fault.{Fault}
use Rattle.program.specs.Groups.{group_of}
use Rattle.group.specs.declared.Section.{Section}
use Rattle.group.specs.declared.Section.TheVariants.{Segment as InSegment, Table as InTable}
use Rattle.group.specs.Group.{words_lie, address_of, InArea}
use Rattle.group.specs.HowGroup.{Sized}

-- the words of a group that go to an address lie in the area
pub record Lies (area : Area) (g : Group) (to : Absolute) : Type 0 where
  pub low : area.at.0 ≤ to.0
  pub high : to.0 + g.program ≤ area.at.0 + area.size

-- one of two banks that both lie in the area does
in_either : (area : Area) (b : Bool) (x y : Bank) → x.at.0 + x.count ≤ area.size → y.at.0 + y.count ≤ area.size
    → (cond b x y).at.0 + (cond b x y).count ≤ area.size
in_either area true x y h k = h
in_either area false x y h k = k

pub words_lie_lem : (area : Area) (section : Section) (g : Group) → InArea area section → words_lie section g ≡ true
    → Lies area g (address_of area section g)
unfolding words_lie address_of
words_lie_lem area (InSegment segment) g r q =
    let bank = cond g.ibank segment.ibank segment.dbank in
    let f = (says_within g.at.0 g.program bank.at.0 bank.count).fact q in
    let k = in_either area g.ibank segment.ibank segment.dbank r.0 r.1 in
    record { low = omega arith; high = omega (arith, f, k) }
words_lie_lem area (InTable t count) g r q =
    let f = (says_within g.at.0 g.program 0 count).fact
    (and_right (not g.ibank) (within g.at.0 g.program 0 count) q) in
    record { low = omega (arith, r.0); high = omega (arith, f, r.1, r.2) }

-- a group that was read has numbers of as many bits as its identifier has for them
abbrev SizedRead : Result Group Fault → Type 0
SizedRead (Ok g) = Sized g
SizedRead (Err f) = Unit {0}

read_sized : (w : ℕ) → SizedRead (group_of w)
unfolding group_of
read_sized w =
    when SizedRead (eqb (part 34 2 w) 2)
    (λ q. when SizedRead (eqb (part 18 8 w) 0) (λ z. tt)
    (λ z. record { words = part_below 26 8 w; program = part_below 18 8 w; at = part_below 0 16 w }))
    (λ q. tt)

pub group_sized : (w : ℕ) (g : Group) → group_of w ≡ Ok g → Sized g
group_sized w g e = rw e at (read_sized w)
