-- The records of a list of numbers, nine a record (SPECIFICATION, "Lists of records").
-- Assumes nothing.
use Rattle.std.specs.Prelude.{ℕ, zero, suc, ◌*◌, ◌/◌, List, [], ◌∷◌, ◌++◌, length}
use Rattle.inventory.specs.declared.Record.{Record}
use Rattle.list_records.specs.Record.{record_at}

-- the first n records
unfoldable pub first_records : List ℕ → ℕ → List Record
first_records numbers zero = []
first_records numbers (suc n) = first_records numbers n ++ (record_at numbers (n * 9) ∷ [])

-- all whole records
unfoldable pub records_of : List ℕ → List Record
records_of numbers = first_records numbers (length numbers / 9)
