-- What the test of the head, and that of two heads, say of the whole. Assumes nothing.
use mathlib.Core.Path.{◌≡◌}
use mathlib.Core.Bool.{true, false, not, ◌&&◌}
use lib.Dec.{leb}
use borrow.Author.Tests.{eq-eqb, ne_eqb}
use Rattle.units.specs.Lists.{all_below}
use Rattle.units.specs.Grounds.{outside}
use Rattle.classes.specs.Classes.{x_count}
use Rattle.inventory.specs.declared.Run.{Run}
use Rattle.inventory.specs.Order.{in_order, x_ok, km_ok, sums_ok, same_x, same_head, record_limit}

module _ (run : Run) where
  pub good_head : true ≡ (not (outside 10 200 run.trip) && all_below (x_ok run) x_count)
      → (leb run.count record_limit && sums_ok run && all_below (km_ok run) 3) ≡ in_order run
  unfolding in_order
  good_head e = rw (← e)

  pub bad_head : false ≡ (not (outside 10 200 run.trip) && all_below (x_ok run) x_count) → false ≡ in_order run
  unfolding in_order
  bad_head e = rw (← e)

module _ (a b : Run) where
  pub trip_same : a.trip ≡ b.trip → all_below (same_x a b) x_count ≡ same_head a b
  unfolding same_head
  trip_same e = rw (eq-eqb a.trip b.trip e)

  pub trip_differs : (a.trip ≡ b.trip → ⊥) → false ≡ same_head a b
  unfolding same_head
  trip_differs e = rw (ne_eqb a.trip b.trip e)
