-- `order::in_order` meets its contract. Assumes nothing.
use Rattle.std.proofs.Common.{sym, ◌∙◌}
use Rattle.order.proofs.Parts.{good_head, bad_head}
use Rattle.order.proofs.in_order.Goals as goal

pub returns-then-head_ok : goal.returns-then-head_ok
returns-then-head_ok g c = c.amounts_ok.ensures ∙ good_head _ (sym c.if-head_ok.true ∙ c.head_ok.ensures)

pub returns-else-head_ok : goal.returns-else-head_ok
returns-else-head_ok g c = c.if-head_ok.false ∙ bad_head _ c.if-head_ok.ensures
