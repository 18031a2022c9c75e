-- `sheet::read_sheet` meets its contract. Assumes nothing.
use Rattle.std.proofs.Common.{rules}
use Prim.Native.Nat.{◌+◌, ◌≤◌}
use mathlib.Core.Path.{◌≡◌, sym, ap, ◌∙◌}
use mathlib.Core.Logic.{inl}
use native.Mathlib.Omega.{arith}
use lib.ListN.{length, length-append, length-drop}
use Rattle.std.proofs.lemmas.List.{take_rest}
use Rattle.std.specs.Iterator.Adapters.{enumerate_source, enumerate_count}
use Rattle.std.specs.Slice.Iter.{chunks_rest}
use Rattle.std.specs.Result.{result_ok}
use Rattle.units.specs.Refusals.{refusal_number}
use Rattle.units.proofs.Refusals.{number_positive, taken_number, refused_number}
use Rattle.units.proofs.Passed.{passed_up}
use Rattle.inventory.specs.Order.{in_order}
use Rattle.inventory.specs.Adding.{with_totals}
use Rattle.inventory.specs.Opening.{given_run}
use Rattle.inventory.proofs.Fresh.{opened_totals}
use Rattle.inventory.proofs.Order.{run_limits}
use Rattle.inventory.proofs.Runs.{limits_before}
use Rattle.run_totals.proofs.Totals.{amounts_limits}
use Rattle.recording.proofs.Runs.{opened_order}
use Rattle.sheet.specs.declared.BadLine.{BadLine}
use Rattle.sheet.specs.Sheet.{refused_at, read_outcome}
use Rattle.sheet.proofs.Walk.{line_refused, line_taken, no_lines, head_misread, first_most, head_refused, head_taken, missed}
use Rattle.sheet.proofs.read_sheet.Goals as goal

pub returns-in_err-first : goal.returns-in_err-first
unfolding refusal_number
returns-in_err-first c =
    let m = missed _ _ _ _ c.ok_or.ensures.value c.in_err-first.was in
    ap read_outcome (passed_up _ _ c.from_residual.ensures.1) ∙ ap (λ (b : BadLine). refused_at (refusal_number b.reason) b.line) m.1
    ∙ head_misread c.args.text.now (sym m.0 ∙ c.head_line.ensures)

pub returns-in-Err : goal.returns-in-Err
returns-in-Err c =
    head_refused c.args.text.now c.in_ok-first.first (sym (c.ok_or.ensures.ok_part ∙ ap result_ok c.in_ok-first.was) ∙ c.head_line.ensures) _ (sym (refused_number _ _ _ c.in-Err.is c.open_run.ensures.number)) (number_positive _)

pub slice_bounds-chunks-count : goal.slice_bounds-chunks-count
slice_bounds-chunks-count c = first_most c.args.text.now c.in_ok-first.first (sym (c.ok_or.ensures.ok_part ∙ ap result_ok c.in_ok-first.was) ∙ c.head_line.ensures)

pub slice_bounds-chunks-start : goal.slice_bounds-chunks-start
slice_bounds-chunks-start c = first_most c.args.text.now c.in_ok-first.first (sym (c.ok_or.ensures.ok_part ∙ ap result_ok c.in_ok-first.was) ∙ c.head_line.ensures)

pub loop-i-init : goal.loop-i-init
unfolding given_run
loop-i-init c =
    let head = c.in_ok-first.first.head in
    let line = sym (c.ok_or.ensures.ok_part ∙ ap result_ok c.in_ok-first.was) ∙ c.head_line.ensures in
    let z = taken_number _ _ _ c.in-Ok.is c.open_run.ensures.number in
    let text = c.args.text.now in
    let it = c.into_iter-i-iterator.ensures.into_iter_gives in
    let count = ap enumerate_count it ∙ c.enumerate-i-items.ensures.count in
    let rest = ap (λ i. chunks_rest (enumerate_source i)) it ∙ ap chunks_rest c.enumerate-i-items.ensures.source ∙ c.chunks.ensures.rest ∙ take_rest text c.in_ok-first.first.size in
    let run : with_totals c.in-Ok.run' ≡ Rattle.inventory.specs.Opening.open_run head = ap with_totals c.in-Ok.ensures.run ∙ opened_totals head in (
      search rules,
      tt,
      search rules,
      omega (arith, count, ap length rest, length-drop c.in_ok-first.first.size text, first_most text c.in_ok-first.first line),
      ap in_order run ∙ opened_order head z,
      rw (run, count, rest) (head_taken text c.in_ok-first.first line z),
    )

pub overflow_add-result : goal.overflow_add-result
overflow_add-result c = let s = c.in-Some.ensures.steps in omega (arith, s.1, s.0.1.2)

pub returns-in-Err-add_line : goal.returns-in-Err-add_line
returns-in-Err-add_line c =
    let it = c.loop-i.i-iterator in
    let s = c.in-Some.ensures.steps in
    let refused = refused_number _ _ _ c.in-Err-add_line.is c.add_line.ensures.number in
    ap (λ n. refused_at (refusal_number c.in-Err-add_line.reason) (n + 2)) s.1
    ∙ line_refused _ c.in-Some.line.now _ s.0.1.0 (rw c.loop-i.invariant.2 at s.0.1.1) s.0.1.2 (with_totals c.loop-i.run) (enumerate_count it + 2) _ (sym refused) (number_positive _)
    ∙ c.loop-i.invariant.5

pub loop-i-preserved : goal.loop-i-preserved
loop-i-preserved c =
    let it = c.loop-i.i-iterator in
    let s = c.in-Some.ensures.steps in
    let n = enumerate_count it in
    let taken = taken_number _ _ _ c.in_default.is c.add_line.ensures.number in
    let size = s.0.0 ∙ c.loop-i.invariant.2 in
    let shorter = ap length s.0.1.0 ∙ length-append c.in-Some.line.now (chunks_rest (enumerate_source c.next.new.self)) in
    let fewer : enumerate_count c.next.new.self + length (chunks_rest (enumerate_source c.next.new.self)) ≤ length c.args.text.now = omega (arith, s.2, s.0.1.1, s.0.1.2, c.loop-i.invariant.2, c.loop-i.invariant.3) in
    let turn : n + 1 + 2 ≡ n + 2 + 1 = omega arith in (
      (omega (arith, size), tt, inl (omega arith)),
      tt,
      size,
      fewer,
      c.add_line.ensures.order,
      rw (c.add_line.ensures.run, s.2, turn)
          (line_taken _ c.in-Some.line.now _ s.0.1.0 (rw c.loop-i.invariant.2 at s.0.1.1) s.0.1.2 (with_totals c.loop-i.run) (n + 2) taken ∙ c.loop-i.invariant.5),
    )

pub make_totals-requires-clause-run_limits : goal.make_totals-requires-clause-run_limits
make_totals-requires-clause-run_limits c = amounts_limits c.loop-i.run (limits_before c.loop-i.run (run_limits (with_totals c.loop-i.run) c.loop-i.invariant.4))

pub returns : goal.returns
returns c =
    let run = with_totals c.loop-i.run in
    rw c.make_totals.ensures (sym (no_lines run (enumerate_count c.loop-i.i-iterator + 2) _ c.in-None.ensures.steps.0.1.0) ∙ c.loop-i.invariant.5)
