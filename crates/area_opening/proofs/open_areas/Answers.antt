-- `area_opening::open_areas` meets its contract. Assumes nothing.
use Rattle.units.specs.Refusals.{answer_number, refusal_number}
use Rattle.area_opening.proofs.Opening.{open_short, number_opened, numbers_opened}
use Rattle.area_opening.proofs.open_areas.Goals as goal

pub returns-then-numbers-ne2737 : goal.returns-then-numbers-ne2737
unfolding answer_number refusal_number
returns-then-numbers-ne2737 c = let p = open_short c.args.numbers.now c.args.head c.if-numbers-ne2737.true in record { number = p.0; numbers = p.1 }

pub returns : goal.returns
returns c =
    let a = c.args in
    record {
      number = number_opened a.numbers.now a.head c.if-numbers-ne2737.false _ _ _ c.map.ensures.cases c.open_run-opened.ensures.number;
      numbers =
          numbers_opened a.numbers.now a.head c.if-numbers-ne2737.false _ c.zeros.ensures c.unwrap_or.ensures c.open_run-opened.ensures.run
          c.spread.ensures;
    }
