-- The faulty files, by computing.
use mathlib.Core.Path.{refl}
use Rattle.worked_file.specs.Worked.{FaultyAnswers, FaultyCores, EdgeSteps}
use Rattle.worked_file.proofs.Opens.{opens}

pub faulty_answers : FaultyAnswers
unfolding opens
faulty_answers = refl

pub faulty_cores : FaultyCores
unfolding opens
faulty_cores = refl

pub edge_steps : EdgeSteps
unfolding opens
edge_steps = refl
