-- The order of a run and the layout as they cross to C (SPECIFICATION, "C interface").
-- Assumes nothing.
use Rattle.std.specs.Prelude.{ℕ, ◌*◌, Bool, cond}
use Rattle.capi_runs.specs.declared.Layout.{Layout}

-- 1 for a run in order, else 0
abbrev pub order_answer : Bool → ℕ
order_answer ok = cond ok 1 0

-- the version of the structs' layout, and the size of a run in bytes: 171 words of 8
abbrev pub layout_of : Layout
layout_of = record { version = 7; size = 171 * 8 }
