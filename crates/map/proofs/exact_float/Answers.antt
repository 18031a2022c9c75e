-- `map::exact_float` meets its contract. Assumes nothing.
use Rattle.map.proofs.Exact.{holds, exactly}
use Rattle.map.proofs.exact_float.Goals as goal

pub int_to_float-result : goal.int_to_float-result
int_to_float-result c = holds c.args.g.0 c.requires

pub returns : goal.returns
returns c = exactly c.args.g.0 c.requires
