-- The bytes of a head and records as a sheet, defined without reading (SPECIFICATION, "Sheet").
-- Assumes nothing.
use Rattle.std.specs.Prelude.{ℕ, suc, Bool, true, false, List, [], ◌∷◌, ◌++◌, map, ℤ, pos, negsuc, get_or}
use Rattle.units.specs.Lists.{tab}
use Rattle.text.specs.Render.{render, render_minus}
use Rattle.calendar.specs.declared.Period.{Period}
use Rattle.calendar.specs.declared.Period.TheVariants as period
use Rattle.inventory.specs.declared.Head.{Head}
use Rattle.inventory.specs.declared.Record.{Record}
use Rattle.lines.specs.Lines.{head_widths, record_widths}

-- a number in w bytes, right-justified with spaces; a minus before one below 0
unfoldable pub render_signed : ℕ → ℤ → List ℕ
render_signed w (pos n) = render w n
render_signed w (negsuc n) = render_minus w (suc n)

-- numbers by their widths, and LF
unfoldable pub render_line : List ℕ → List ℤ → List ℕ
render_line [] zs = 10 ∷ []
render_line (w ∷ ws) [] = 10 ∷ []
render_line (w ∷ ws) (z ∷ zs) = render_signed w z ++ render_line ws zs

abbrev pub temperature_in : Head → ℕ → ℤ
temperature_in head k = get_or head.temps k (pos 0)

-- whether a period has dates, and the days that stand for it
abbrev pub is_dated : Period → Bool
is_dated period.Year = false
is_dated (period.Days d) = true

abbrev pub days_of_line : Period → List ℤ
days_of_line period.Year = []
days_of_line (period.Days d) = pos d.first ∷ pos d.last ∷ []

-- L, then twelve T, then the first and the last day where the head is dated
abbrev pub head_numbers : Head → List ℤ
head_numbers head = pos head.trip ∷ (tab (temperature_in head) 12 ++ days_of_line head.period)

unfoldable pub render_head : Head → List ℕ
render_head head = render_line (head_widths (is_dated head.period)) (head_numbers head)

-- class, vehicles, km, three shares, three speeds
abbrev pub record_numbers : Record → List ℕ
record_numbers rec =
    rec.class ∷ rec.vehicles ∷ rec.km
    ∷ rec.shares.urban ∷ rec.shares.rural ∷ rec.shares.highway
    ∷ rec.speeds.urban.0 ∷ rec.speeds.rural.0 ∷ rec.speeds.highway.0
    ∷ []

unfoldable pub render_record : Record → List ℕ
render_record rec = render_line record_widths (map pos (record_numbers rec))

unfoldable pub render_records : List Record → List ℕ
render_records [] = []
render_records (rec ∷ recs) = render_record rec ++ render_records recs

unfoldable pub render_sheet : Head → List Record → List ℕ
render_sheet head recs = render_head head ++ render_records recs
