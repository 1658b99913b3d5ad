-- A stage is nine numbers, and reading what was written gives the stage again.
use mathlib.Core.Path.{◌≡◌, refl}
use mathlib.Core.Bool.{true, false}
use lib.ListN.{length}
use Rattle.stage.specs.Stage.{numbers_of, stage_of}
use Rattle.stage.specs.declared.Due.TheVariants.{Segment, SegmentGroup, Section, SectionGroup}
use Rattle.stage.specs.declared.Stage.{Stage}
use Rattle.stage.specs.declared.Stage.TheVariants.{Label, Entry, Program, Termination, Complete, Broken}

pub stage-length : (s : Stage) → length (numbers_of s) ≡ 9
unfolding numbers_of
stage-length Label = refl
stage-length (Entry c exact b) = refl
stage-length (Program c Segment) = refl
stage-length (Program c (SegmentGroup g)) = refl
stage-length (Program c (Section t i)) = refl
stage-length (Program c (SectionGroup t i)) = refl
stage-length (Termination i) = refl
stage-length Complete = refl
stage-length Broken = refl

pub stage_back : (s : Stage) → stage_of (numbers_of s) ≡ s
unfolding numbers_of stage_of
stage_back Label = refl
stage_back (Entry c true b) = refl
stage_back (Entry c false b) = refl
stage_back (Program c Segment) = refl
stage_back (Program c (SegmentGroup g)) = refl
stage_back (Program c (Section t i)) = refl
stage_back (Program c (SectionGroup t i)) = refl
stage_back (Termination i) = refl
stage_back Complete = refl
stage_back Broken = refl
