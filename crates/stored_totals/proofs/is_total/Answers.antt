-- `stored_totals::is_total` meets its contract. Assumes nothing.
use Rattle.std.proofs.Common.{sym, arith}
use Rattle.inventory.proofs.Order.{amount_bad}
use Rattle.stored_totals.proofs.Carries.{amount_by}
use Rattle.stored_totals.proofs.is_total.Goals as goal

pub returns-then-carry-gt3 : goal.returns-then-carry-gt3
returns-then-carry-gt3 c = sym (amount_bad _ _ _ (λ m e. omega arith))

pub returns : goal.returns
returns c = amount_by _ _ _ _ _ (omega arith) (λ e. omega arith) (λ e. omega arith)
