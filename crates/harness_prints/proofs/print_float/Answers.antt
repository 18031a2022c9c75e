-- Both tests passed: the float lies above -1 and below 2^64; else a point is printed.
use Rattle.std.proofs.Common.{T, sym, subst}
use lib.Ieee.{of_bits, neg}
use Rattle.harness_prints.proofs.Floats.{float_text-whole, float_text-low, float_text-high}
use Rattle.harness_prints.proofs.print_float.Goals.{else-x-via-then-x+else-x-2, else-x-via-else-x}
use Rattle.harness_prints.proofs.print_float.Goals as goal

pub print_whole-requires-clause-above : goal.print_whole-requires-clause-above
unfolding of_bits neg
print_whole-requires-clause-above g c = subst T (sym c.if-x.true) tt

pub print_whole-requires-clause-below : goal.print_whole-requires-clause-below
unfolding of_bits
print_whole-requires-clause-below g c = subst T (sym c.if-x-2.true) tt

pub returns-then-x-2 : goal.returns-then-x-2
unfolding of_bits neg
returns-then-x-2 g c = rw (float_text-whole c.args.x c.if-x.true c.if-x-2.true) c.print_whole.ensures

pub returns : goal.returns
unfolding of_bits neg
returns g c = elim c.else-x.branch [
  | else-x-via-then-x+else-x-2 w ↦ rw (float_text-high c.args.x w.if-x.true w.if-x-2.false) c.write_all.ensures.bytes
  | else-x-via-else-x w ↦ rw (float_text-low c.args.x w.if-x.false) c.write_all.ensures.bytes
]
