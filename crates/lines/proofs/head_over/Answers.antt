-- `lines::head_over` meets its contract. Assumes nothing.
use mathlib.Core.Path.{sym, ◌∙◌}
use Rattle.lines.proofs.Heads.{trip_missing, temps_missing, head_there}
use Rattle.lines.proofs.head_over.Goals as goal

pub returns-in_err-trip : goal.returns-in_err-trip
returns-in_err-trip c = c.from_residual.ensures ∙ trip_missing c.args.s.now _ (sym c.read_count.ensures ∙ c.in_err-trip.was)

pub returns-in_err-temps : goal.returns-in_err-temps
returns-in_err-temps c = c.from_residual-in_err-temps.ensures ∙ temps_missing c.args.s.now _ (sym c.temps_in.ensures ∙ c.in_err-temps.was)

pub returns : goal.returns
returns c = head_there c.args.s.now _ _ _ (sym c.read_count.ensures ∙ c.in_ok-trip.was) (sym c.temps_in.ensures ∙ c.in_ok-temps.was)
