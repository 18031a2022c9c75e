-- `harness_answers::print_run` meets its contract. Assumes nothing.
use Rattle.std.proofs.Common.{rules, ◌∷◌}
use Rattle.std.specs.Fmt.{decimal}
use Rattle.std.specs.Io.KnownBytes.{Appends}
use Rattle.std.proofs.KnownBytes.{Appends-nil, Appends-trans}
use Rattle.units.specs.Lists.{tab}
use Rattle.harness_runs.specs.Runs.{field_at}
use Rattle.harness_answers.proofs.Numbers.{numbers_more}
use Rattle.harness_answers.proofs.print_run.Goals as goal

pub loop-i-init : goal.loop-i-init
unfolding tab
loop-i-init g c = Appends-nil _

pub loop-i-preserved : goal.loop-i-preserved
loop-i-preserved g c =
    let p : Appends (g.W.Write.contents c.loop-i.out) (g.W.Write.contents c.print.new.out) (32 ∷ decimal (field_at c.args.run.now c.loop-i.i)) = search rules in
    rw (numbers_more (field_at c.args.run.now) c.loop-i.i) (Appends-trans _ _ _ _ _ c.loop-i.invariant p)
