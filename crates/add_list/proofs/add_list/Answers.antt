-- `add_list::add_list` meets its contract. Assumes nothing.
use mathlib.Core.Path.{refl, ap, sym, ◌∙◌}
use borrow.Author.Tests.{eqb-false}
use Rattle.units.specs.Refusals.{answer_number, refusal_number}
use Rattle.units.proofs.Refusals.{number_positive, taken_number, refused_number}
use Rattle.units.proofs.Passed.{passed_up}
use Rattle.inventory.specs.declared.Run.{Run}
use Rattle.inventory.specs.Order.{in_order}
use Rattle.inventory.specs.Opening.{given_run}
use Rattle.inventory.specs.Adding.{with_totals}
use Rattle.inventory.proofs.Fresh.{opened_totals}
use Rattle.accuracy.specs.Claim.{run_after}
use Rattle.accuracy.proofs.Whole.{every_list}
use Rattle.recording.proofs.Runs.{opened_order}
use Rattle.add_list.specs.Records.{records_of}
use Rattle.add_list.specs.Answer.{first_refused, added_run, added_taken, added_first}
use Rattle.add_list.proofs.Lists.{cut_list, whole_list, refused_run, refused_taken, refused_first, given_taken}
use Rattle.add_list.proofs.Lists as lists
use Rattle.add_list.proofs.add_list.Goals as goal

pub returns-then-numbers-ne0 : goal.returns-then-numbers-ne0
unfolding answer_number refusal_number
returns-then-numbers-ne0 c =
    let a = c.args in
    let n = cut_list a.head a.numbers.now c.if-numbers-ne0.true in
    record {
      number = n;
      run = refused_run _ _ _ n refl;
      taken = refused_taken _ _ _ n refl;
      first = refused_first _ _ _ n refl;
      claim = λ z. absurd (eqb-false 10 0 refl z);
    }

pub returns-in_err-run : goal.returns-in_err-run
unfolding answer_number
returns-in_err-run c =
    let a = c.args in
    let e = passed_up _ _ c.from_residual.ensures.1 in
    let h = refused_number _ _ _ c.in_err-run.was c.open_run.ensures.number in
    let n = sym h ∙ whole_list a.head a.numbers.now c.if-numbers-ne0.false in
    let p = number_positive _ in
    record {
      number = ap answer_number e ∙ n;
      run = ap added_run e ∙ refused_run _ _ _ n p;
      taken = ap added_taken e ∙ refused_taken _ _ _ n p;
      first = ap added_first e ∙ refused_first _ _ _ n p;
      claim = λ z. absurd (eqb-false _ 0 p (sym (ap answer_number e) ∙ z));
    }

pub add_all-first-requires : goal.add_all-first-requires
unfolding given_run
add_all-first-requires c =
    ap in_order (ap with_totals c.in_ok-run.ensures.run ∙ opened_totals c.args.head) ∙ opened_order _ (taken_number _ _ _ c.in_ok-run.was c.open_run.ensures.number)

pub returns : goal.returns
unfolding answer_number given_run
returns c =
    let a = c.args in
    let z = taken_number _ _ _ c.in_ok-run.was c.open_run.ensures.number in
    let n = sym (whole_list a.head a.numbers.now c.if-numbers-ne0.false) ∙ z in
    let g = c.add_all-first.ensures in
    let opened = ap with_totals c.in_ok-run.ensures.run ∙ opened_totals a.head in
    let r = g.run ∙ ap (λ (run : Run). run_after run (records_of a.numbers.now)) opened in
    record {
      number = sym n;
      run = r ∙ lists.given_run _ _ n;
      taken = ap (λ (run : Run). run.count) r ∙ given_taken _ _ n z;
      first = g.first ∙ ap (λ (run : Run). first_refused run 1 (records_of a.numbers.now)) opened ∙ lists.given_first _ _ n;
      claim = λ y. rw r ((every_list _ z).list (records_of a.numbers.now));
    }
