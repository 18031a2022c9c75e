-- `book::factors_of` meets its contract. Assumes nothing.
use mathlib.Core.Path.{refl, ◌∙◌}
use native.Mathlib.Omega.{arith}
use Rattle.units.specs.Lists.{tab}
use Rattle.units.proofs.Tab.{filled_none, filled_more, filled}
use Rattle.factors.proofs.Factors.{two_stroke_lem}
use Rattle.book.proofs.Lines.{road_speed, roads, lines_factors}
use Rattle.book.proofs.factors_of.Goals as goal

pub returns-then-class-eq5 : goal.returns-then-class-eq5
returns-then-class-eq5 c = c.two_stroke.ensures ∙ two_stroke_lem _ _ _ _ c.if-class-eq5.true

pub loop-road-init : goal.loop-road-init
loop-road-init c = filled_none _ _ _ refl

pub line_of-requires : goal.line_of-requires
line_of-requires c =
    let s = c.args.speeds in
    record {
      driven = rw (road_speed s.urban s.rural s.highway c.loop-road.road) (roads _ _ _ _ c.requires.0 c.requires.1 c.requires.2 c.loop-road.road (omega arith));
      fact = c.if-class-eq5.false;
    }

pub loop-road-preserved : goal.loop-road-preserved
loop-road-preserved c =
    let s = c.args.speeds in
    filled_more _ c.loop-road.invariant (omega arith) (rw (road_speed s.urban s.rural s.highway c.loop-road.road) at c.line_of.ensures)

pub returns : goal.returns
unfolding tab
returns c =
    let lines = filled c.loop-road.invariant (omega arith) (omega arith) in
    lines_factors c.args.class _ _ _ _ c.requires.0 c.requires.1 c.requires.2 c.if-class-eq5.false lines
