-- The pieces of a program block from a place on: none where the block is closed, else the one that stands there and those behind.
use Prim.Native.Nat.{ℕ, zero, suc}
use mathlib.Core.Path.{◌≡◌, refl}
use mathlib.Core.Bool.{true, false}
use mathlib.Core.List.{List, [], ◌∷◌}
use mathlib.Core.Logic.{inl, inr}
use lib.ListN.{get_or}
use Rattle.program.specs.declared.Group.{Group}
use Rattle.std.specs.Prelude.{Ok}
use Rattle.program.specs.Groups.{group_of}
use Rattle.program.specs.Pieces.{closes, Head, head_at, Piece, after, piece_then, pieces_from, OneOf}
use Rattle.program.specs.Pieces.Head.{GroupHead}
use Rattle.program.proofs.Heads.{head_group}

module _ (block : List ℕ) (i : ℕ) where
  pub no_fuel : pieces_from 0 block i ≡ []
  unfolding pieces_from
  no_fuel = refl

  pub no_pieces : (n : ℕ) → closes block i ≡ true → pieces_from n block i ≡ []
  unfolding pieces_from
  no_pieces zero q = refl
  no_pieces (suc n) q = rw q

  module _ (n : ℕ) (more : closes block i ≡ false) where
    pub pieces_on : (h : Head) → head_at block i ≡ h
        → pieces_from (suc n) block i ≡ piece_then block i h (pieces_from n block (after i h))
    unfolding pieces_from
    pieces_on h e = rw (more, e)

    -- the group that stands there is one of them
    pub group_here : (g : Group) → group_of (get_or block i 0) ≡ Ok g
        → OneOf (record { block = block; at = i; head = GroupHead g }) (pieces_from (suc n) block i)
    unfolding OneOf
    group_here g e = rw (pieces_on (GroupHead g) (head_group block i g e)) (inl refl)

-- a piece stands at place i, and the next at place p
pub record Onward (block : List ℕ) (i p n : ℕ) : Type 0 where
  pub first : Piece
  pub same : pieces_from (suc n) block i ≡ first ∷ pieces_from n block p

-- so those from p on are among those from i on
pub later_piece : {block : List ℕ} {i p n : ℕ} → Onward block i p n → (q : Piece) → OneOf q (pieces_from n block p)
    → OneOf q (pieces_from (suc n) block i)
unfolding OneOf
later_piece o q h = rw o.same (inr h)
