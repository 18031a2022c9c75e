-- `order::same_head` meets its contract. Assumes nothing.
use Rattle.std.proofs.Common.{rules, refl, sym, ◌∙◌}
use borrow.Author.Tests.{ne_eqb}
use Rattle.units.proofs.Ranges.{all_range}
use Rattle.inventory.specs.Order.{same_x}
use Rattle.order.proofs.Parts.{trip_same, trip_differs}
use Rattle.order.proofs.same_head.Goals as goal

pub returns-then-trip : goal.returns-then-trip
returns-then-trip g c =
    let a = g.A.RunNumbers.run c.args.a.now in
    let b = g.B.RunNumbers.run c.args.b.now in
    all_range (same_x a b) 16 _ _ _ c.all.ensures.ran refl (λ x r q k. search rules) ∙ trip_same a b (search rules)

pub returns-else-trip : goal.returns-else-trip
returns-else-trip g c =
    ne_eqb _ _ c.if-trip.false
    ∙ trip_differs (g.A.RunNumbers.run c.args.a.now) (g.B.RunNumbers.run c.args.b.now) (λ z. c.if-trip.false (c.trip.ensures ∙ z ∙ sym c.trip-2.ensures))
