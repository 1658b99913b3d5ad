-- The worked file, by computing.
use mathlib.Core.Path.{refl}
use Rattle.worked_file.specs.Worked.{WorkedImage, WorkedStart, WorkedTaken, WorkedAnswers, WorkedCore}
use Rattle.worked_file.proofs.Opens.{opens}

pub worked_image_lem : WorkedImage
unfolding opens
worked_image_lem = refl

pub worked_start : WorkedStart
unfolding opens
worked_start = refl

pub worked_taken : WorkedTaken
unfolding opens
worked_taken = (refl, (refl, (refl, (refl, (refl, (refl, refl))))))

pub worked_answers : WorkedAnswers
unfolding opens
worked_answers = refl

pub worked_core : WorkedCore
unfolding opens
worked_core = refl
