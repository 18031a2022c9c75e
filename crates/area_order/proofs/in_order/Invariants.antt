-- What the loop of `area_order::in_order` keeps. Assumes nothing.
use Rattle.std.proofs.Common.{◌≡◌, true, ◌*◌, ◌≤◌}
use Rattle.units.specs.Lists.{all_below, sum_to}
use Rattle.areas.specs.Areas.{area_ok, beyond_own, counts_of}
use Rattle.areas.specs.Numbers.{areas_of}
use Rattle.area_order.proofs.in_order.Given as goal

abbrev pub invariant-loop-i : goal.invariant-loop-i
invariant-loop-i l =
    record {
      small : l.common ≤ 4700 * l.i;
      ok : all_below (area_ok (areas_of l.numbers)) l.i ≡ true;
      sum : l.common ≡ sum_to (beyond_own (counts_of (areas_of l.numbers))) l.i;
    }
