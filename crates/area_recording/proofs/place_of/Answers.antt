-- `area_recording::place_of` meets its contract. Assumes nothing.
use Rattle.std.proofs.Common.{refl, sym, ◌∙◌}
use Rattle.units.specs.Refusals.{refusal_number}
use Rattle.areas.proofs.Adding.{call_unordered, call_no_area}
use Rattle.area_recording.proofs.place_of.Goals as goal

pub returns-then-not-in_order : goal.returns-then-not-in_order
unfolding refusal_number
returns-then-not-in_order c = record { refused = λ own. call_unordered _ _ own (sym c.in_order.ensures ∙ c.if-not-in_order.true); place = tt }

pub returns-then-area-gt15 : goal.returns-then-area-gt15
unfolding refusal_number
returns-then-area-gt15 c =
    record { refused = λ own. call_no_area _ _ own (sym c.in_order.ensures ∙ c.if-not-in_order.false) c.if-area-gt15.true; place = tt }

pub returns : goal.returns
returns c = record { refused = tt; place = (refl, c.if-area-gt15.false, sym c.in_order.ensures ∙ c.if-not-in_order.false) }
