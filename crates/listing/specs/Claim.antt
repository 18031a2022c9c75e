-- The width of the report's figures cuts none of them, as one statement (SPECIFICATION, "Report").
-- Assumes nothing.
use Rattle.std.specs.Prelude.{ℕ, ◌<◌, ◌≡◌, true}
use Rattle.text.specs.Render.{render, digits_value}
use Rattle.inventory.specs.declared.Run.{Run}
use Rattle.inventory.specs.Order.{in_order}
use Rattle.inventory.specs.Printed.{printed_kind, printed_total}
use Rattle.report_lines.specs.Line.{figure_width}

pub record WidthClaim : Type 0 where
  -- the bytes of a printed kind of a run in order, read back, are the kind
  pub kind_said : (run : Run) → in_order run ≡ true → (fuel quantity kind : ℕ) → fuel < 3 → quantity < 5 → kind < 4
      → digits_value 0 (render figure_width (printed_kind run fuel quantity kind)) ≡ printed_kind run fuel quantity kind
  -- and those of a printed total the total
  pub total_said : (run : Run) → in_order run ≡ true → (fuel quantity : ℕ) → fuel < 3 → quantity < 5
      → digits_value 0 (render figure_width (printed_total run fuel quantity)) ≡ printed_total run fuel quantity
