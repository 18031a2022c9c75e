-- CO2, SO2 and lead from fuel (SPECIFICATION, "From fuel").
-- Assumes nothing.
use Rattle.std.specs.Prelude.{ℕ, ◌+◌, ◌*◌, ◌-◌, List, [], ◌∷◌, ◌++◌, ltb}
use Rattle.units.specs.Grounds.{Ground, ground, first_fit}
use Rattle.units.specs.Rounding.{half_up}
use Rattle.inventory.specs.declared.Run.{Run}
use Rattle.inventory.specs.Printed.{Answer, answered, total_grounds}
use Rattle.balance.specs.Balance.{printed_fuel}

-- CO2 = 44,011,000F / (12,011,000 + 1,008R), half up; R is hydrogen per carbon in thousandths
unfoldable pub co2_grams : ℕ → ℕ → ℕ
co2_grams f r = half_up (44011000 * f) (12011000 + 1008 * r)

-- SO2 = 2Fs / 1,000,000, half up; s is sulphur in ppm by mass
unfoldable pub so2_grams : ℕ → ℕ → ℕ
so2_grams f s = half_up (2 * s * f) 1000000

-- lead = 3Fl / 4,000,000, half up; l is lead in ppm by mass
unfoldable pub lead_grams : ℕ → ℕ → ℕ
lead_grams f l = half_up (3 * l * f) 4000000

-- the grounds: those of a question for the FC total of the fuel, then 15 for R, s or l over its limit; the fuel counts from 1 here
unfoldable pub content_grounds : Run → ℕ → ℕ → ℕ → List Ground
content_grounds run fuel limit content = total_grounds run fuel 5 ++ (ground 15 (ltb limit content) ∷ [])

-- the answers, over F, the printed FC total of the fuel
unfoldable pub co2_of : Run → ℕ → ℕ → Answer
co2_of run fuel hydrogen = answered (first_fit (content_grounds run fuel 4000 hydrogen)) (co2_grams (printed_fuel run (fuel - 1)) hydrogen)

unfoldable pub so2_of : Run → ℕ → ℕ → Answer
so2_of run fuel sulphur = answered (first_fit (content_grounds run fuel 10000 sulphur)) (so2_grams (printed_fuel run (fuel - 1)) sulphur)

unfoldable pub lead_of : Run → ℕ → ℕ → Answer
lead_of run fuel content = answered (first_fit (content_grounds run fuel 1000 content)) (lead_grams (printed_fuel run (fuel - 1)) content)
