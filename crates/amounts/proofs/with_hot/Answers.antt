-- `amounts::with_hot` meets its contract. Assumes nothing.
use mathlib.Core.Path.{ap, ◌∙◌}
use Prim.Native.Nat.{◌*◌}
use Rattle.inventory.specs.Adding.{billionths}
use Rattle.amounts.proofs.Products.{hot_made}
use Rattle.amounts.proofs.with_hot.Goals as goal

pub returns : goal.returns
returns c =
    let a = c.args in
    c.carried.ensures ∙ ap billionths (hot_made a.sum.grams.0 a.sum.rest (a.k.0 * a.share) a.e)
