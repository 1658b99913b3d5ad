-- The file whose last entry is split, by computing.
use mathlib.Core.Path.{refl}
use Rattle.worked_file.specs.Worked.{SplitImage, SplitTaken, SplitAnswers}
use Rattle.worked_file.proofs.Opens.{opens}

pub split_image_lem : SplitImage
unfolding opens
split_image_lem = refl

pub split_taken : SplitTaken
unfolding opens
split_taken = (refl, (refl, (refl, (refl, (refl, (refl, refl))))))

pub split_answers : SplitAnswers
unfolding opens
split_answers = refl
