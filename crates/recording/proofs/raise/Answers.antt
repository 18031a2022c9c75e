-- `recording::raise` meets its contract. Assumes nothing.
use Rattle.sums.proofs.Parts.{sums_limits}
use Rattle.recording.proofs.Runs.{raised_parts}
use Rattle.recording.proofs.raise.Goals as goal

pub add_sums-requires : goal.add_sums-requires
add_sums-requires c = record { record_limits = c.requires.record_limits; run_limits = sums_limits _ c.requires.run_limits.0 }

pub returns : goal.returns
returns c = raised_parts _ _ _ _ c.add_sums.ensures c.add_km.ensures
