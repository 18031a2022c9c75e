-- Worked histories (SPECIFICATION, "Accuracy"): each record is measured by its own head, and a refused join counts as its first.
-- Assumes nothing.
use Rattle.std.specs.Prelude.{ℕ, ◌+◌, ◌*◌, ◌/◌, ◌%◌, ◌≡◌, false, List, [], ◌∷◌, ℤ, pos, neg_ℤ, replicate}
use Rattle.units.specs.Lists.{tab}
use Rattle.units.specs.Fractions.{over}
use Rattle.calendar.specs.declared.Period.TheVariants as period
use Rattle.calendar.specs.Periods.{days}
use Rattle.inventory.specs.declared.Head.{Head}
use Rattle.inventory.specs.Printed.{total_of}
use Rattle.joins.specs.Joining.{join_number}
use Rattle.accuracy.specs.Conditions.{heads_differ}
use Rattle.accuracy.specs.History.{History, opened, joins, further, HeadsTaken, history_run, history_reference}
use Rattle.accuracy.specs.Numbers.{example_head, example_of}
use Rattle.worked.specs.Worked.{many}

-- L 200 and four temperatures, the other eight 100
abbrev pub four_months : ℤ → ℤ → ℤ → ℤ → Head
four_months a b c d = record { trip = 200; temps = a ∷ b ∷ c ∷ d ∷ replicate 8 (pos 100); period = period.Year }

-- two heads with one L and all X alike, whose unrounded X of LPG NOX differ
abbrev pub first_head : Head
first_head = four_months (neg_ℤ (pos 121)) (neg_ℤ (pos 101)) (neg_ℤ (pos 30)) (pos 72)

abbrev pub second_head : Head
second_head = four_months (neg_ℤ (pos 168)) (neg_ℤ (pos 46)) (pos 15) (pos 19)

-- the first with two months exchanged, whose exact sums are the same
abbrev pub exchanged_head : Head
exchanged_head = four_months (pos 72) (neg_ℤ (pos 101)) (neg_ℤ (pos 30)) (neg_ℤ (pos 121))

-- the example's head over a period: twelve equal temperatures have one X whatever the weights
abbrev pub example_days : ℕ → ℕ → Head
example_days first last = record { trip = 120; temps = replicate 12 (pos 100); period = period.Days (days first last) }

-- one record under each of the two heads, joined
abbrev pub two_heads : History
two_heads = joins (opened first_head (example_of 4 ∷ [])) (opened second_head (example_of 4 ∷ []))

-- then a refused record and one more, measured by the second head
abbrev pub two_heads_later : History
two_heads_later = further two_heads second_head (example_of 0 ∷ example_of 4 ∷ [])

-- a head without dates, one of 28 days and one of 365
abbrev pub three_periods : History
three_periods =
    joins (joins (opened example_head (example_of 2 ∷ [])) (opened (example_days 20260201 20260228) (example_of 2 ∷ [])))
    (opened (example_days 20260101 20261231) (example_of 2 ∷ []))

-- the runs of two heads that differ
abbrev pub unlike_heads : History
unlike_heads = joins (opened example_head (example_of 2 ∷ [])) (opened first_head (example_of 4 ∷ []))

-- more than 5,000 records together
abbrev pub too_many : History
too_many = joins (opened example_head (many 3000)) (opened example_head (many 2001))

-- the totals that the run of a history prints (fuel × 5 + quantity), and the reference's count and kilometres
pub record HistoryGives (h : History) (printed : List ℕ) (count : ℕ) (km : List ℕ) : Type 0 where
  pub totals : tab (λ i. (total_of (history_run h) (i / 5 + 1) (i % 5 + 1)).grams) 15 ≡ printed
  pub counted : (history_reference h).count ≡ count
  pub distance : tab (history_reference h).km 3 ≡ km

pub record WorkedJoinsClaim : Type 0 where
  pub alike : heads_differ first_head second_head ≡ false
  -- each of these is a history that the claim is about, those with a refused join too
  pub taken : HeadsTaken two_heads_later
  pub periods_taken : HeadsTaken three_periods
  pub unlike_taken : HeadsTaken unlike_heads
  pub many_taken : HeadsTaken too_many
  -- LPG NOX of two records, each by its own head: neither what both are by the first nor what both are by the second
  pub each_by_its_own : (history_reference two_heads).exact 2 1 ≡ over 82740319753430400000000000000 12000000000000000000000
  pub both_by_the_first : (history_reference (opened first_head (example_of 4 ∷ example_of 4 ∷ []))).exact 2 1 ≡ over 82740319773484800000000000000 12000000000000000000000
  pub both_by_the_second : (history_reference (opened second_head (example_of 4 ∷ example_of 4 ∷ []))).exact 2 1 ≡ over 82740319733376000000000000000 12000000000000000000000
  -- months exchanged do not show it
  pub exchanged_months : (history_reference (joins (opened first_head (example_of 4 ∷ [])) (opened exchanged_head (example_of 4 ∷ [])))).exact 2 1
      ≡ over 82740319773484800000000000000 12000000000000000000000
  pub two_records : HistoryGives two_heads
      (0 ∷ 0 ∷ 0 ∷ 0 ∷ 0 ∷ 0 ∷ 0 ∷ 0 ∷ 0 ∷ 0 ∷ 56693006 ∷ 6895026 ∷ 6015562 ∷ 0 ∷ 1118523384 ∷ []) 2 (0 ∷ 0 ∷ 20000000 ∷ [])
  -- further adds by the second head; by the first it would be 124,110,479,640,172,800,000,000,000,000
  pub later_by_its_own : (history_reference two_heads_later).exact 2 1 ≡ over 124110479620118400000000000000 12000000000000000000000
  pub three_records : HistoryGives two_heads_later
      (0 ∷ 0 ∷ 0 ∷ 0 ∷ 0 ∷ 0 ∷ 0 ∷ 0 ∷ 0 ∷ 0 ∷ 85039509 ∷ 10342539 ∷ 9023343 ∷ 0 ∷ 1677785076 ∷ []) 3 (0 ∷ 0 ∷ 30000000 ∷ [])
  -- gasoline CO over three denominators, multiplied out
  pub three_denominators : (history_reference three_periods).exact 0 0
      ≡ over 9982472327856000000000000000000000000000000000000000000000000000000000000000 (12000000000000000000000 * 28000000000000000000000 * 365000000000000000000000)
  pub dated_and_not : HistoryGives three_periods
      (81396546 ∷ 12586161 ∷ 5759328 ∷ 0 ∷ 2886707580 ∷ 0 ∷ 0 ∷ 0 ∷ 0 ∷ 0 ∷ 0 ∷ 0 ∷ 0 ∷ 0 ∷ 0 ∷ []) 3 (30000000 ∷ 0 ∷ 0 ∷ [])
  -- a refused join counts as its first
  pub heads_refused : join_number (history_run (opened example_head (example_of 2 ∷ []))) (history_run (opened first_head (example_of 4 ∷ []))) ≡ 21
  pub first_alone : (history_reference unlike_heads).exact 0 0 ≡ over 325586181600000000000000000000 12000000000000000000000
  pub one_record : HistoryGives unlike_heads
      (27132182 ∷ 4195387 ∷ 1919776 ∷ 0 ∷ 962235860 ∷ 0 ∷ 0 ∷ 0 ∷ 0 ∷ 0 ∷ 0 ∷ 0 ∷ 0 ∷ 0 ∷ 0 ∷ []) 1 (10000000 ∷ 0 ∷ 0 ∷ [])
  -- 5,000 records together are taken, 5,001 are not
  pub together_taken : join_number (history_run (opened example_head (many 3000))) (history_run (opened example_head (many 2000))) ≡ 0
  pub together_refused : join_number (history_run (opened example_head (many 3000))) (history_run (opened example_head (many 2001))) ≡ 22
