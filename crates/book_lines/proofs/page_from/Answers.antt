-- `book_lines::page_from` meets its contract. Assumes nothing.
use mathlib.Core.Path.{◌≡◌}
use Prim.Native.Nat.{◌/◌, ◌%◌}
use native.Mathlib.Nat.{add-zero}
use native.Mathlib.Omega.{arith}
use Rattle.units.specs.Lists.{tab}
use Rattle.book_lines.specs.Lines.{page_of}
use Rattle.book_lines.proofs.page_from.Goals as goal

pub returns : goal.returns
unfolding tab page_of
returns c =
    let s = c.args in
    let p : s.n / 121 ≡ s.pair = omega arith in
    let k : s.n % 121 ≡ s.k = omega arith in
    rw (p, k, add-zero) cc
