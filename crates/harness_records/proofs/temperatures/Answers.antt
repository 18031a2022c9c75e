-- `harness_records::temperatures` meets its contract. Assumes nothing.
use Rattle.std.proofs.Common.{rules}
use lib.IntN.{pos}
use Rattle.units.proofs.Ranges.{tab_made}
use Rattle.harness_records.specs.Records.{temperature_in}
use Rattle.harness_records.proofs.temperatures.Goals as goal

pub returns : goal.returns
returns c = tab_made (pos 0) (temperature_in c.args.line.now) _ _ (λ i y q k. search rules) 12 c.from_fn.ensures.items
