-- `figures::figures_of` meets its contract. Assumes nothing.
use mathlib.Core.Path.{refl}
use Rattle.std.proofs.Common.{rules}
use Rattle.units.proofs.Ranges.{tab_made}
use Rattle.figures.specs.Table.{figures, row_at}
use Rattle.figures.proofs.figures_of.Goals as goal

pub returns : goal.returns
unfolding figures
returns c =
    let run = c.args.run.now in rw (tab_made (row_at run 0) (row_at run) _ _ (λ i y q k. search rules) 15 c.from_fn.ensures.items) refl
