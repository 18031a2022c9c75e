-- `area_recording::add_area` meets its contract. Assumes nothing.
use Rattle.std.proofs.Common.{◌≡◌, refl, ap, sym, ◌∙◌, ◌+◌, ◌*◌, ◌-◌, arith}
use Rattle.units.specs.Refusals.{answer_number}
use Rattle.units.proofs.Refusals.{taken_number, refused_number}
use Rattle.inventory.proofs.Records.{record_limits}
use Rattle.areas.specs.Calls.{add_area_number}
use Rattle.areas.proofs.Order.{size_is}
use Rattle.area_recording.proofs.Adding.{record_own, refused_kept, common_low, run_order, run_few, add_room, still, numbers_added}
use Rattle.area_runs.proofs.Written.{mid_long}
use Rattle.area_recording.proofs.add_area.Goals as goal

pub returns-in_err-i : goal.returns-in_err-i
unfolding add_area_number
returns-in_err-i c =
    let a = c.args in
    let h = rw c.in_err-i.was at c.place_of.ensures.refused in
    let k = refused_kept a.numbers.now a.area a.rec c.from_residual.result _ c.from_residual.ensures.1 (h _) in
    record { number = k.0; numbers = k.1 }

pub bounds-numbers-2736 : goal.bounds-numbers-2736
bounds-numbers-2736 c = let p = rw c.in_ok-i.was at c.place_of.ensures.place in omega (arith, size_is _ p.2)

pub at-place-requires : goal.at-place-requires
at-place-requires c = let p = rw c.in_ok-i.was at c.place_of.ensures.place in omega (arith, size_is _ p.2, p.0, p.1)

pub returns-in_err-area_verdict : goal.returns-in_err-area_verdict
returns-in_err-area_verdict c =
    let a = c.args in let l = a.numbers.now in let p = rw c.in_ok-i.was at c.place_of.ensures.place in
    let its = rw p.0 at c.at-place.ensures in
    let v = rw c.count-count.ensures at c.area_verdict.ensures in
    let e = v ∙ add_room l a.area a.rec p.2 p.1 _ its in
    let k = refused_kept l a.area a.rec c.from_residual-in_err-area_verdict.result _ c.from_residual-in_err-area_verdict.ensures.1 (sym (refused_number c.area_verdict.result _ _ c.in_err-area_verdict.was e)) in
    record { number = k.0; numbers = k.1 }

pub enter-requires : goal.enter-requires
enter-requires c =
    let a = c.args in let l = a.numbers.now in let p = rw c.in_ok-i.was at c.place_of.ensures.place in
    let its = rw p.0 at c.at-place.ensures in
    let z = taken_number c.area_verdict.result _ _ c.in_ok-area_verdict.was c.area_verdict.ensures in
    let e = c.run_of-run.ensures ∙ its in
    record {
      record_limits = record_limits _ (record_own _ _ _ z);
      run_value = (run_order l a.area a.rec p.2 p.1 _ e, omega (arith, run_few l a.area a.rec p.2 p.1 _ e));
    }

pub slice_bounds-put_run-end : goal.slice_bounds-put_run-end
slice_bounds-put_run-end c = let p = rw c.in_ok-i.was at c.place_of.ensures.place in omega (arith, size_is _ p.2, p.0, p.1)

pub put_run-requires : goal.put_run-requires
put_run-requires c =
    let a = c.args in let p = rw c.in_ok-i.was at c.place_of.ensures.place in
    let k : a.area * 171 + 171 - a.area * 171 ≡ 171 = omega arith in
    rw (p.0, k) (mid_long (a.area * 171) 171 a.numbers.now (omega (arith, size_is _ p.2, p.1)))

pub common_after-requires : goal.common_after-requires
common_after-requires c =
    let a = c.args in let p = rw c.in_ok-i.was at c.place_of.ensures.place in common_low a.numbers.now a.area a.rec p.2

pub bounds-numbers-2736-2 : goal.bounds-numbers-2736-2
bounds-numbers-2736-2 c =
    let a = c.args in let p = rw c.in_ok-i.was at c.place_of.ensures.place in
    rw p.0
    (omega (arith, still a.numbers.now _ a.area _ 0 (size_is a.numbers.now p.2) p.1 c.put_run.ensures (a.area * 171 + 171 - a.area * 171) (omega arith)))

pub returns : goal.returns
unfolding answer_number
returns c =
    let a = c.args in let l = a.numbers.now in let p = rw c.in_ok-i.was at c.place_of.ensures.place in
    let its = rw p.0 at c.at-place.ensures in
    let e = c.run_of-run.ensures ∙ its in
    let v = rw (c.count-count.ensures, its) at c.area_verdict.ensures in
    let z = taken_number c.area_verdict.result _ _ c.in_ok-area_verdict.was (v ∙ add_room l a.area a.rec p.2 p.1 _ refl) in
    record {
      number = sym z;
      numbers =
          rw p.0
          (numbers_added l a.area a.rec p.2 p.1 _ e (a.area * 171 + 171 - a.area * 171) _ _ _ _ (omega arith) c.enter.ensures c.put_run.ensures
          (c.count-count.ensures ∙ sym (ap (λ r. r.count) c.run_of-run.ensures)) c.common_after.ensures z);
    }
