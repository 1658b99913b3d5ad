-- A state that calls can go on from: a sound desk, and a core of its length.
use mathlib.Core.Path.{◌≡◌}
use mathlib.Core.Bool.{true}
use lib.ListN.{length}
use Rattle.layout.specs.Layout.{core_length}
use Rattle.desk.specs.Sound.{sound}
use Rattle.demands.specs.History.{State}

pub record Prepared (s : State) : Type 0 where
  pub desk : sound s.desk ≡ true
  pub core : length s.core ≡ core_length s.desk
