-- `areas::AreaRun::at` meets its contract. Assumes nothing.
use Rattle.std.proofs.Common.{◌*◌, refl}
use Rattle.areas.proofs.Numbers.{run_between}
use Rattle.areas.proofs.AreaRun.at.Goals as goal

pub returns : goal.returns
returns c = run_between c.args.numbers.now (c.args.i * 171) _ refl
