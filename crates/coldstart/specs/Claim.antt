-- What SPECIFICATION, "Cold starts" and "The run", says of B and X for every head that opening takes, as one claim.
-- Assumes nothing.
use Rattle.std.specs.Prelude.{ℕ, ◌≤◌, ◌<◌, ◌≡◌, List, ℤ, pos, nat_abs, get_or, ◌≤ℤ◌}
use Rattle.classes.specs.Classes.{x_count}
use Rattle.calendar.specs.declared.Period.{Period}
use Rattle.calendar.specs.Periods.{TakenPeriod}
use Rattle.coldstart.specs.ColdStart.{Climate, cold_share, cold_x, x_most}

-- B of month k
abbrev pub share_at : ℕ → List ℤ → ℕ → ℤ
share_at l ts k = cold_share l (get_or ts k (pos 0))

pub record ShareClaim : Type 0 where
  -- inside the limits B lies between 0 and 1
  pub share_range : (l : ℕ) (ts : List ℤ) → Climate l ts → (k : ℕ) → k < 12 → (pos 0 ≤ℤ share_at l ts k) × (share_at l ts k ≤ℤ pos 100000000)
  -- so that nothing of it is cut
  pub share_kept : (l : ℕ) (ts : List ℤ) → Climate l ts → (k : ℕ) → k < 12 → pos (nat_abs (share_at l ts k)) ≡ share_at l ts k
  -- each X is at most 4,900,000,000, as a run in order has it, with dates or without
  pub x_most_lem : (period : Period) (l : ℕ) (ts : List ℤ) → Climate l ts → TakenPeriod period → (i : ℕ) → i < x_count → cold_x period l ts i ≤ x_most
