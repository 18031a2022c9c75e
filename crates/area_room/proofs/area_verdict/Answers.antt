-- `area_room::area_verdict` meets its contract. Assumes nothing.
use mathlib.Core.Logic.{⊎_elim}
use Prim.Native.Nat.{◌≤◌, ◌<◌}
use Rattle.units.specs.Refusals.{answer_number, refusal_number}
use Rattle.area_room.proofs.Room.{area_refused, area_full_lem, room_common, room_own}
use Rattle.area_room.proofs.area_verdict.Goals as goal

pub returns-in_err-record_verdict : goal.returns-in_err-record_verdict
returns-in_err-record_verdict c = area_refused _ _ _ _ c.record_verdict.ensures _ _ c.from_residual.ensures.1 c.in_err-record_verdict.was

pub returns-then-common-ge200 : goal.returns-then-common-ge200
unfolding answer_number refusal_number
returns-then-common-ge200 c = area_full_lem _ _ _ _ c.record_verdict.ensures _ c.in_ok-record_verdict.was c.if-count-ge300.true c.if-common-ge200.true

pub returns : goal.returns
unfolding answer_number
returns c =
    let a = c.args in
    ⊎_elim (λ (w : 300 ≤ a.count × a.common < 200). room_common a.count a.common a.rec.now _ c.record_verdict.ensures _ c.in_ok-record_verdict.was w.1)
    (λ (w : a.count < 300). room_own a.count a.common a.rec.now _ c.record_verdict.ensures _ c.in_ok-record_verdict.was w) c.else-count-ge300.either
