-- One record of a list of numbers, nine a record: class, vehicles, km, three shares, three speeds (SPECIFICATION, "Lists of records").
-- Assumes nothing.
use Rattle.std.specs.Prelude.{ℕ, ◌+◌, List, get_or}
use Rattle.inventory.specs.declared.Record.{Record}

-- the record whose numbers start at a place
unfoldable pub record_at : List ℕ → ℕ → Record
record_at numbers at =
    record {
      class = get_or numbers at 0;
      vehicles = get_or numbers (at + 1) 0;
      km = get_or numbers (at + 2) 0;
      shares = record { urban = get_or numbers (at + 3) 0; rural = get_or numbers (at + 4) 0; highway = get_or numbers (at + 5) 0 };
      speeds = record {
        urban = record { 0 = get_or numbers (at + 6) 0 };
        rural = record { 0 = get_or numbers (at + 7) 0 };
        highway = record { 0 = get_or numbers (at + 8) 0 };
      };
    }
