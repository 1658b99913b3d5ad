-- `map::pairs_fit` meets its contract, by what its callees ensure.
use Rattle.map.proofs.pairs_fit.Goals as goal

pub returns : goal.returns
returns c = rw (← c.read_map.ensures) c.map_obeys.ensures
