-- `lines::head_line` meets its contract. Assumes nothing.
use mathlib.Core.Path.{sym, ◌∙◌}
use Rattle.lines.proofs.HeadLines.{short_none, year_none, year_read, days_short_none, days_lf_none, first_none, last_none, days_none, days_read}
use Rattle.lines.proofs.head_line.Goals as goal
use Rattle.lines.proofs.head_line.Goals.{then-s-lt84-via-then-s-lt84, then-s-lt84-via-else-s-lt84+then-s-ne10}

pub returns-then-s-lt66 : goal.returns-then-s-lt66
returns-then-s-lt66 c = short_none c.args.s.now c.if-s-lt66.true

pub returns-in_err-head : goal.returns-in_err-head
returns-in_err-head c = c.from_residual.ensures ∙ year_none c.args.s.now c.if-s-lt66.false c.if-s-eq10.true (sym c.in_err-head.was ∙ c.head_over.ensures)

pub returns-then-s-eq10 : goal.returns-then-s-eq10
returns-then-s-eq10 c = year_read c.args.s.now c.if-s-lt66.false c.if-s-eq10.true _ (sym c.in_ok-head.was ∙ c.head_over.ensures)

pub returns-then-s-lt84 : goal.returns-then-s-lt84
returns-then-s-lt84 c =
    elim c.then-s-lt84.branch [
      | then-s-lt84-via-then-s-lt84 w ↦ days_short_none c.args.s.now c.if-s-lt66.false c.if-s-eq10.false w.if-s-lt84.true
      | then-s-lt84-via-else-s-lt84+then-s-ne10 w ↦ days_lf_none c.args.s.now c.if-s-lt66.false c.if-s-eq10.false w.if-s-ne10.true
    ]

pub returns-in_err-first : goal.returns-in_err-first
returns-in_err-first c =
    c.from_residual-in_err-first.ensures ∙ first_none c.args.s.now c.if-s-lt66.false c.if-s-eq10.false c.if-s-lt84.false c.if-s-ne10.false (sym c.read_count.ensures ∙ c.in_err-first.was)

pub returns-in_err-last : goal.returns-in_err-last
returns-in_err-last c =
    c.from_residual-in_err-last.ensures ∙ last_none c.args.s.now c.if-s-lt66.false c.if-s-eq10.false c.if-s-lt84.false c.if-s-ne10.false (sym c.read_count-2.ensures ∙ c.in_err-last.was)

pub returns-in_err-head-2 : goal.returns-in_err-head-2
returns-in_err-head-2 c =
    c.from_residual-in_err-head-2.ensures
    ∙ days_none c.args.s.now c.if-s-lt66.false c.if-s-eq10.false c.if-s-lt84.false c.if-s-ne10.false _ _ (sym c.read_count.ensures ∙ c.in_ok-first.was) (sym c.read_count-2.ensures ∙ c.in_ok-last.was)
    (sym c.in_err-head-2.was ∙ c.head_over-2.ensures)

pub returns : goal.returns
returns c =
    days_read c.args.s.now c.if-s-lt66.false c.if-s-eq10.false c.if-s-lt84.false c.if-s-ne10.false _ _ (sym c.read_count.ensures ∙ c.in_ok-first.was) (sym c.read_count-2.ensures ∙ c.in_ok-last.was) _
    (sym c.in_ok-head-2.was ∙ c.head_over-2.ensures)
