-- `area_order::area_ok` meets its contract. Assumes nothing.
use Rattle.std.proofs.Common.{◌∙◌}
use Rattle.area_order.proofs.Tests.{by_amounts}
use Rattle.area_order.proofs.area_ok.Goals as goal

pub returns-then-same_head : goal.returns-then-same_head
returns-then-same_head c = c.amounts_ok.ensures ∙ by_amounts _ _ c.requires c.if-same_head.ensures
