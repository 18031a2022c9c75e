-- SPECIFICATION, "Figures", as one table.
-- Assumes nothing.
use Rattle.std.specs.Prelude.{ℕ, ◌*◌, List, [], ◌∷◌, pos, neg_ℤ, replicate}
use Rattle.units.specs.Figures.{Figure, figure, AllPrinted}
use Rattle.units.specs.Rounding.{half_up}
use Rattle.calendar.specs.declared.Period.{Period}
use Rattle.calendar.specs.declared.Period.TheVariants as period
use Rattle.calendar.specs.Periods.{days}
use Rattle.factors.specs.Factors.{emission_factor}
use Rattle.coldstart.specs.ColdStart.{cold_share, or_zero, cold_factor}
use Rattle.inventory.specs.declared.Head.{Head}
use Rattle.inventory.specs.declared.Record.{Record}
use Rattle.inventory.specs.declared.Run.{Run}
use Rattle.inventory.specs.Opening.{open_run}
use Rattle.balance.specs.Balance.{balance_of}
use Rattle.fuel.specs.FromFuel.{co2_grams, lead_grams}
use Rattle.accuracy.specs.Claim.{run_after}
use Rattle.accuracy.specs.ColdValues.{opened_x}

-- head `  120` and twelve `  100`
abbrev pub example_head : Head
example_head = record { trip = 120; temps = replicate 12 (pos 100); period = period.Year }

-- L 10 and twelve T of -297, where 72/100 of the rounded X of class 2 is not the X of class 3
abbrev pub cold_head : Head
cold_head = record { trip = 10; temps = replicate 12 (neg_ℤ (pos 297)); period = period.Year }

-- L 120, T -100 in February and 100 in the other months, over a period
abbrev pub season_head : Period → Head
season_head p = record { trip = 120; temps = pos 100 ∷ neg_ℤ (pos 100) ∷ replicate 10 (pos 100); period = p }

abbrev pub dated_head : ℕ → ℕ → Head
dated_head first last = season_head (period.Days (days first last))

-- record ` 2   1000  10000  40  40  20  20  60 100`, with any class
abbrev pub example_of : ℕ → Record
example_of class =
    record {
      class = class;
      vehicles = 1000;
      km = 10000;
      shares = record { urban = 40; rural = 40; highway = 20 };
      speeds = record { urban = record { 0 = 20 }; rural = record { 0 = 60 }; highway = record { 0 = 100 } };
    }

unfoldable pub example_run : Run
example_run = run_after (open_run example_head) (example_of 2 ∷ [])

unfoldable pub figures : List Figure
figures =
    -- B at L 120, T 100
    figure (or_zero (cold_share 120 (pos 100))) 29580000
    -- X of class 2 there: CO, NOX, VOC, FC
    ∷ figure (opened_x example_head 2 0) 532440000
    ∷ figure (opened_x example_head 2 1) 23664000
    ∷ figure (opened_x example_head 2 2) 354960000
    ∷ figure (opened_x example_head 2 4) 112404000
    -- X of class 3 there: CO its own, NOX, VOC, FC as class 2
    ∷ figure (opened_x example_head 3 0) 383356800
    ∷ figure (opened_x example_head 3 1) 23664000
    ∷ figure (opened_x example_head 3 2) 354960000
    ∷ figure (opened_x example_head 3 4) 112404000
    -- X of CO of classes 2 and 3 at L 10, T -297
    ∷ figure (opened_x cold_head 2 0) 4834859126
    ∷ figure (opened_x cold_head 3 0) 3481098570
    -- what 72/100 of the rounded X of class 2 would be
    ∷ figure (half_up (opened_x cold_head 2 0 * 72) 100) 3481098571
    -- a cold February without dates, by the dates of a full year of 365 days and of 366, on its 29th day, and outside it: X of CO
    ∷ figure (opened_x (season_head period.Year) 2 0) 607530000
    ∷ figure (opened_x (dated_head 20260101 20261231) 2 0) 601563945
    ∷ figure (opened_x (dated_head 20000101 20001231) 2 0) 603837049
    ∷ figure (opened_x (dated_head 20000229 20000229) 2 0) 1433520000
    ∷ figure (opened_x (dated_head 20260515 20261020) 2 0) 532440000
    -- and of class 3, rounded once: 72/100 of the rounded X would be one less
    ∷ figure (opened_x (dated_head 20260101 20261231) 3 0) 433126041
    ∷ figure (half_up (opened_x (dated_head 20260101 20261231) 2 0 * 72) 100) 433126040
    -- class 2 CO at 20, 60, 100
    ∷ figure (emission_factor 2 0 0 20) 15095000
    ∷ figure (emission_factor 2 0 1 60) 15295000
    ∷ figure (emission_factor 2 0 2 100) 34695000
    -- the cold CO factor
    ∷ figure (cold_factor (emission_factor 2 0 0 20) (opened_x example_head 2 0)) 8037182
    -- S 1000: k, the digits worked, and the balanced CO
    ∷ figure (balance_of example_run 1 1 1000).k 1039246
    ∷ figure (balance_of example_run 1 1 1000).digits 12
    ∷ figure (balance_of example_run 1 1 1000).grams 28197012
    -- F 13,825,400 with R 1,800: CO2
    ∷ figure (co2_grams 13825400 1800) 44011000
    -- F 1,000,000 at l 2: lead
    ∷ figure (lead_grams 1000000 2) 2
    ∷ []

-- every figure of the table is the printed one
abbrev pub NumbersClaim : Type 0
NumbersClaim = AllPrinted figures
