-- The head and the record of a line (SPECIFICATION, "Sheet").
-- Assumes nothing.
use Rattle.std.specs.Prelude.{ℕ, true, false, List, [], ◌∷◌, ℤ, get_or, take, drop, Option, Some, None, option_and_then}
use Rattle.fields.specs.Field.{count_of}
use Rattle.calendar.specs.declared.Period.{Period}
use Rattle.calendar.specs.declared.Period.TheVariants as period
use Rattle.calendar.specs.Periods.{days}
use Rattle.inventory.specs.declared.Head.{Head}
use Rattle.inventory.specs.declared.Record.{Record}
use Rattle.lines.specs.Lines.{head_widths, record_widths, before, numbers_of}

-- numbers without a minus
unfoldable pub counts_of : List ℤ → Option (List ℕ)
counts_of [] = Some []
counts_of (z ∷ zs) = before (count_of z) (counts_of zs)

-- what stands behind the temperatures: nothing, or a first and a last day, both without a minus
abbrev pub period_with : List ℤ → Option Period
period_with [] = Some period.Year
period_with (first ∷ []) = None
period_with (first ∷ last ∷ zs) = option_and_then (λ a. option_and_then (λ b. Some (period.Days (days a b))) (count_of last)) (count_of first)

-- a head over a period: L, which stands without a minus, then the temperatures
abbrev pub head_over : Period → List ℤ → Option Head
head_over p [] = None
head_over p (l ∷ ts) = option_and_then (λ n. Some (record { trip = n; temps = ts; period = p })) (count_of l)

-- L and twelve T, then the period
abbrev pub head_with : List ℤ → Option Head
head_with zs = option_and_then (λ p. head_over p (take 13 zs)) (period_with (drop 13 zs))

abbrev pub or_else : {A : Type 0} → Option A → Option A → Option A
or_else (Some x) y = Some x
or_else None y = y

-- the head of line 1 in either form, 13 numbers or 15; none where its shape is wrong
unfoldable pub head_of : List ℕ → Option Head
head_of line = option_and_then head_with (or_else (numbers_of (head_widths false) line) (numbers_of (head_widths true) line))

-- class, vehicles, km, three shares, three speeds
abbrev pub record_with : List ℕ → Record
record_with ns =
    record {
      class = get_or ns 0 0;
      vehicles = get_or ns 1 0;
      km = get_or ns 2 0;
      shares = record { urban = get_or ns 3 0; rural = get_or ns 4 0; highway = get_or ns 5 0 };
      speeds =
          record {
            urban = record { 0 = get_or ns 6 0 };
            rural = record { 0 = get_or ns 7 0 };
            highway = record { 0 = get_or ns 8 0 };
          };
    }

-- the record of another line, none where its shape is wrong
unfoldable pub record_of : List ℕ → Option Record
record_of line = option_and_then (λ ns. Some (record_with ns)) (option_and_then counts_of (numbers_of record_widths line))
