-- The claim about stored totals. Assumes nothing.
use mathlib.Core.Path.{◌≡◌, refl, ap, sym, subst}
use mathlib.Core.Bool.{Bool, true, false, cond}
use mathlib.Core.List.{List, [], ◌∷◌}
use Prim.Native.Nat.{ℕ, ◌+◌, ◌*◌, ◌/◌, ◌%◌, ◌<◌}
use native.Mathlib.Omega.{arith}
use lib.Dec.{eqb}
use Rattle.units.specs.Grounds.{first_fit}
use Rattle.units.specs.Rounding.{half_up}
use Rattle.inventory.specs.declared.Head.{Head}
use Rattle.inventory.specs.declared.Record.{Record}
use Rattle.inventory.specs.declared.Run.{Run}
use Rattle.inventory.specs.Order.{total_ok, in_order}
use Rattle.inventory.specs.Opening.{empty_run, fresh_run, zero_run, open_number, open_run}
use Rattle.inventory.specs.Adding.{with_totals, raised, run_with, add_grounds, add_number, add_run}
use Rattle.inventory.specs.Printed.{printed_total, total_grounds, answered, total_of, kind_of}
use Rattle.inventory.proofs.Fresh.{empty_totals}
use Rattle.inventory.proofs.Order.{amount_below, amount_is, total_of_lem}
use Rattle.inventory.proofs.Stored.{total_kept}
use Rattle.joins.specs.Joining.{join_number, added_up, joined, join_run}
use Rattle.joins.proofs.Laws.{first_unordered, second_unordered}
use Rattle.balance.specs.Balance.{balance_grounds, balance_number}
use Rattle.fuel.specs.FromFuel.{content_grounds, co2_of, so2_of, lead_of}
use Rattle.listing.specs.Report.{report_grounds, report_number}
use Rattle.map.specs.Map.{row_number, figure_of}
use Rattle.areas.specs.Numbers.{areas_of}
use Rattle.areas.specs.Calls.{numbers_in_order}
use Rattle.areas.proofs.Order.{run_ok, areas_ok}
use Rattle.accuracy.specs.Claim.{run_after}
use Rattle.total_claims.specs.Claim.{Stored, Sixteen, TotalsClaim}

-- a run whose totals are in order stores them
stored : (run : Run) → ((k : ℕ) → k < 15 → total_ok run k ≡ true) → Stored run
stored run ok =
    record {
      rest = λ fuel quantity f q. amount_below _ _ _ (ok (fuel * 5 + quantity) (omega arith));
      total =
          λ fuel quantity f q.
          let e : (fuel * 5 + quantity) / 5 ≡ fuel = omega arith in
          let g : (fuel * 5 + quantity) % 5 ≡ quantity = omega arith in
          rw (e, g) at (amount_is _ _ _ (ok (fuel * 5 + quantity) (omega arith)));
    }

empty : (trip : ℕ) (xs : List ℕ) → Stored (empty_run trip xs)
empty trip xs = subst Stored (empty_totals trip xs) (stored (with_totals (empty_run trip xs)) (total_kept (empty_run trip xs)))

opened : (head : Head) → Stored (open_run head)
unfolding open_run fresh_run zero_run
opened head = by (eqb (open_number head) 0)
  where
    by : (b : Bool) → Stored (cond b (fresh_run head) zero_run)
    by true = empty _ _
    by false = empty _ _

added : (run : Run) (rec : Record) → Stored run → Stored (add_run run rec)
unfolding add_run run_with
added run rec s = by (eqb (add_number run rec) 0)
  where
    by : (b : Bool) → Stored (cond b (run_with run rec) run)
    by true = stored (run_with run rec) (total_kept (raised run rec))
    by false = s

both : (a b : Run) → Stored a → Stored (join_run a b)
unfolding join_run joined
both a b s = by (eqb (join_number a b) 0)
  where
    by : (t : Bool) → Stored (cond t (joined a b) a)
    by true = stored (joined a b) (total_kept (added_up a b))
    by false = s

after : (recs : List Record) (run : Run) → Stored run → Stored (run_after run recs)
unfolding run_after
after [] run s = s
after (rec ∷ recs) run s = after recs (add_run run rec) (added run rec s)

of_areas : (numbers : List ℕ) → numbers_in_order numbers ≡ true → (area : ℕ) → area < 16 → Stored ((areas_of numbers).runs area)
of_areas numbers o area h = stored _ (total_of_lem _ (run_ok (areas_of numbers) (areas_ok numbers o) area h))

-- ---- where it is lost

areas_lost : (numbers : List ℕ) (area : ℕ) (b : Bool) → numbers_in_order numbers ≡ b → area < 16 → (Stored ((areas_of numbers).runs area) → ⊥) → numbers_in_order numbers ≡ false
areas_lost numbers area true e h gone = absurd (gone (of_areas numbers e area h))
areas_lost numbers area false e h gone = e

unordered : (run : Run) (b : Bool) → in_order run ≡ b → (Stored run → ⊥) → in_order run ≡ false
unordered run true e gone = absurd (gone (stored run (total_of_lem run e)))
unordered run false e gone = e

second : (other run : Run) (b : Bool) → in_order other ≡ b → in_order run ≡ false → join_number other run ≡ 16
second other run true e o = sym (second_unordered other run e o)
second other run false e o = sym (first_unordered other run e)

sixteen : (run : Run) → in_order run ≡ false → Sixteen run
unfolding first_fit add_number add_grounds total_grounds total_of kind_of answered balance_number balance_grounds content_grounds co2_of so2_of lead_of report_number report_grounds row_number figure_of
sixteen run o =
    record {
      unordered = o;
      adding = λ rec. rw o;
      joined_first = λ other. sym (first_unordered run other o);
      joined_second = λ other. second other run (in_order other) refl o;
      totals = λ fuel quantity. rw o;
      kinds = λ fuel quantity kind. rw o;
      balances = λ fuel quantity sold. rw o;
      co2 = λ fuel content. rw o;
      so2 = λ fuel content. rw o;
      lead = λ fuel content. rw o;
      reports = λ buffer. rw o;
      rows = λ fuel quantity. rw o;
      figures = λ fuel quantity kind. rw o;
    }

pub whole : TotalsClaim
unfolding printed_total
whole =
    record {
      opened = opened;
      added = added;
      joined = both;
      lists = λ head recs. after recs (open_run head) (opened head);
      ordered = λ run o. stored run (total_of_lem run o);
      lost = λ run gone. sixteen run (unordered run (in_order run) refl gone);
      areas = of_areas;
      areas_lost = λ numbers area. areas_lost numbers area (numbers_in_order numbers) refl;
      printed = λ run fuel quantity s f q. ap (λ n. half_up n 1000000000) (sym (s.total fuel quantity f q));
    }
