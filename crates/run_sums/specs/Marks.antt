-- What the fast test of the sums goes by.
-- Assumes nothing.
use Rattle.std.specs.Prelude.{ℕ, ◌+◌, ◌/◌}

-- below 2^29 exactly where the rest is below 10^9, since 36,870,912 is 2^29 less 500,000,000
abbrev pub rest_mark : ℕ → ℕ
rest_mark rest = rest / 2 + 36870912
