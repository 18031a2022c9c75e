-- `coldstart::cold_excess` meets its contract. Assumes nothing.
use Rattle.coldstart.specs.ColdStart.{cold_ratio, cold_excess}
use Rattle.units.proofs.Signed.{back, arg, cast, num, sub, mul}
use Rattle.coldstart.proofs.ColdStart.{temperature_size, cut}
use Rattle.coldstart.proofs.cold_excess.Goals as goal

pub overflow_mul-x : goal.overflow_mul-x
overflow_mul-x c = (mul tt (cast tt c.requires.0.fall) (arg tt (temperature_size _ c.requires.1))).fit

pub overflow_sub-x : goal.overflow_sub-x
overflow_sub-x c = (sub tt (cast tt c.requires.0.at_zero) (back (mul tt (cast tt c.requires.0.fall) (arg tt (temperature_size _ c.requires.1))))).fit

pub overflow_sub-x-2 : goal.overflow_sub-x-2
overflow_sub-x-2 c =
    (sub tt (back (sub tt (cast tt c.requires.0.at_zero) (back (mul tt (cast tt c.requires.0.fall) (arg tt (temperature_size _ c.requires.1)))))) (num 10000 tt)).fit

pub returns : goal.returns
unfolding cold_excess cold_ratio
returns c =
    let x = back (sub tt (back (sub tt (cast tt c.requires.0.at_zero) (back (mul tt (cast tt c.requires.0.fall) (arg tt (temperature_size _ c.requires.1)))))) (num 10000 tt)) in
    cut x c.max.result (record { sfits = c.max.type_inv }) c.max.ensures.value
