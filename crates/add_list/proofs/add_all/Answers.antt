-- `add_list::add_all` meets its contract. Assumes nothing.
use mathlib.Core.Path.{◌≡◌, refl, ap, sym, ◌∙◌}
use mathlib.Core.List.{◌++◌}
use Prim.Native.Nat.{◌+◌, ◌*◌, ◌/◌, ◌<◌}
use native.Mathlib.Omega.{arith}
use mathlib.Core.Logic.{inl}
use lib.ListN.{length, drop, length-drop}
use Rattle.std.proofs.Common.{rules}
use Rattle.std.specs.Iterator.Adapters.{enumerate_source, enumerate_count}
use Rattle.std.specs.Slice.Iter.{chunks_exact_rest, chunks_exact_size}
use Rattle.units.proofs.Refusals.{taken_number, refused_number}
use Rattle.inventory.specs.Order.{in_order}
use Rattle.inventory.specs.Adding.{with_totals, add_number, add_run}
use mathlib.Core.Bool.{true}
use Rattle.inventory.proofs.Order.{run_limits}
use Rattle.inventory.proofs.Runs.{limits_before}
use Rattle.run_totals.proofs.Totals.{amounts_limits}
use Rattle.recording.proofs.Runs.{raised_number, raised_added, raised_order}
use Rattle.add_list.proofs.Lists.{placed_or, noted, noted_or, none_noted, none_run, none_first, turn_run, turn_first, all_run, all_first, its_record, behind, at_end}
use Rattle.add_list.proofs.add_all.Goals as goal

pub loop-i-init : goal.loop-i-init
loop-i-init c =
    let n = c.args.numbers.now in
    let it = c.into_iter-i-iterator.ensures.into_iter_gives in
    let count = ap enumerate_count it ∙ c.enumerate-i-items.ensures.count in
    let rest = ap (λ i. chunks_exact_rest (enumerate_source i)) it ∙ ap chunks_exact_rest c.enumerate-i-items.ensures.source ∙ c.chunks_exact.ensures.rest in (
      search rules,
      tt,
      search rules,
      omega (arith, count),
      rw (count, rest) refl,
      c.requires,
      tt,
      rw count (none_run _ _),
      rw count (none_first _ _),
    )

pub loop-i-preserved-in-Err : goal.loop-i-preserved-in-Err
loop-i-preserved-in-Err c =
    let l = c.loop-i in
    let v = l.invariant in
    let n = c.args.numbers.now in
    let s = c.in-Some.ensures.steps in
    let i = enumerate_count l.i-iterator in
    let nine = c.in-Some.nine.now in
    let rest = chunks_exact_rest (enumerate_source c.next.new.self) in
    let parts : drop (i * 9) n ≡ nine ++ rest = sym v.4 ∙ s.0.1.0 in
    let size : length nine ≡ 9 = s.0.1.1 ∙ v.2 in
    let later = behind n nine rest i parts size (enumerate_count c.next.new.self) s.2 in
    let rec = c.record_of-rec.result in
    let e = c.record_of-rec.ensures ∙ its_record n nine rest i parts size in
    let added = c.add_before_totals.ensures in
    let run = with_totals l.run in
    let order : in_order (with_totals c.add_before_totals.new.run) ≡ true = rw added.run (raised_order l.run rec v.5) in
    let after = ap with_totals added.run ∙ raised_added l.run rec v.5 ∙ ap (add_run run) e ∙ turn_run _ n run i v.7 in
    let kept = s.0.0 ∙ v.2 in
    let left : length rest / chunks_exact_size (enumerate_source c.next.new.self) ≡ length rest / 9 = ap (λ k. length rest / k) kept in
    let r = c.in-Err.reason in
    let number = ap (add_number run) (sym e) ∙ sym (raised_number l.run rec v.5) ∙ refused_number _ _ _ c.in-Err.is added.number in
    let told = c.or-first.ensures in (
      (omega (arith, kept), tt, inl (omega (arith, left, later.0, ap length later.1, length-drop (enumerate_count c.next.new.self * 9) n))),
      tt,
      kept,
      later.0,
      later.1,
      order,
      rw told (placed_or l.first c.in-Some.i r v.6),
      rw s.2 after,
      rw (told, s.2) (noted_or l.first (c.in-Some.i + 1) r v.6 ∙ rw s.1 (ap (noted _ _) (sym number) ∙ turn_first _ n run i v.7 _ v.8)),
    )

pub loop-i-preserved : goal.loop-i-preserved
loop-i-preserved c =
    let l = c.loop-i in
    let v = l.invariant in
    let n = c.args.numbers.now in
    let s = c.in-Some.ensures.steps in
    let i = enumerate_count l.i-iterator in
    let nine = c.in-Some.nine.now in
    let rest = chunks_exact_rest (enumerate_source c.next.new.self) in
    let parts : drop (i * 9) n ≡ nine ++ rest = sym v.4 ∙ s.0.1.0 in
    let size : length nine ≡ 9 = s.0.1.1 ∙ v.2 in
    let later = behind n nine rest i parts size (enumerate_count c.next.new.self) s.2 in
    let rec = c.record_of-rec.result in
    let e = c.record_of-rec.ensures ∙ its_record n nine rest i parts size in
    let added = c.add_before_totals.ensures in
    let run = with_totals l.run in
    let order : in_order (with_totals c.add_before_totals.new.run) ≡ true = rw added.run (raised_order l.run rec v.5) in
    let after = ap with_totals added.run ∙ raised_added l.run rec v.5 ∙ ap (add_run run) e ∙ turn_run _ n run i v.7 in
    let kept = s.0.0 ∙ v.2 in
    let left : length rest / chunks_exact_size (enumerate_source c.next.new.self) ≡ length rest / 9 = ap (λ k. length rest / k) kept in
    let number = ap (add_number run) (sym e) ∙ sym (raised_number l.run rec v.5) ∙ taken_number _ _ _ c.in_default.is added.number in (
      (omega (arith, kept), tt, inl (omega (arith, left, later.0, ap length later.1, length-drop (enumerate_count c.next.new.self * 9) n))),
      tt,
      kept,
      later.0,
      later.1,
      order,
      v.6,
      rw s.2 after,
      rw s.2 (none_noted _ _ _ number ∙ turn_first _ n run i v.7 _ v.8),
    )

pub make_totals-requires-clause-run_limits : goal.make_totals-requires-clause-run_limits
make_totals-requires-clause-run_limits c = amounts_limits c.loop-i.run (limits_before c.loop-i.run (run_limits (with_totals c.loop-i.run) c.loop-i.invariant.5))

pub returns : goal.returns
returns c =
    let n = c.args.numbers.now in
    let l = c.loop-i in
    let few : length (chunks_exact_rest (enumerate_source l.i-iterator)) < 9 = rw l.invariant.2 at c.in-None.ensures.steps.0.1.0 in
    let all = at_end n _ _ l.invariant.3 l.invariant.4 few in
    record {
      run = c.make_totals.ensures ∙ all_run _ n _ _ l.invariant.7 all;
      first = all_first _ n _ _ all l.invariant.8;
    }
