-- `map::figure_of` meets its contract. Assumes nothing.
use mathlib.Core.Path.{sym, ap, ◌∙◌}
use Rattle.map.specs.Map.{row_answer, figure_answer}
use Rattle.map.proofs.Rows.{figure_refused, figure_none, figure_given}
use Rattle.map.proofs.figure_of.Goals as goal

pub returns-in_err-row : goal.returns-in_err-row
returns-in_err-row c =
    let q = figure_refused _ _ _ _ _ _ _ c.from_residual.ensures.1 c.in_err-row.was c.row_of.ensures.answer in
    record { answer = q.0; exact = q.1 }

pub returns-then-not_given : goal.returns-then-not_given
unfolding figure_answer
returns-then-not_given c =
    let q = figure_none _ _ _ _ (ap row_answer (sym c.in_ok-row.was) ∙ c.row_of.ensures.answer) _ (sym c.not_given.ensures ∙ c.if-not_given.true) in
    record { answer = q.0; exact = q.1 }

pub returns : goal.returns
unfolding figure_answer
returns c =
    let q = figure_given _ _ _ _ (ap row_answer (sym c.in_ok-row.was) ∙ c.row_of.ensures.answer) (rw c.in_ok-row.was at c.row_of.ensures.exact) _ _ (sym c.not_given.ensures ∙ c.if-not_given.false) c.of.ensures in
    record { answer = q.0; exact = q.1 }
