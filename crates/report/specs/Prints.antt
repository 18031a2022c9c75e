-- What stands on the output when the program is done.
-- Assumes nothing.
use Rattle.std.specs.Prelude.{ℕ, List, take, ⊤, Option, Result, Ok, Err}
use Rattle.std.specs.Io.KnownBytes.{Appends, Keeps}
use Rattle.report.specs.declared.Trouble.{Trouble}
use Rattle.report.specs.declared.Trouble.TheVariants.{Reading, Writing}

-- the whole text where nothing failed, nothing where reading failed, a front of the text where writing failed
abbrev pub Prints : Option (List ℕ) → Option (List ℕ) → List ℕ → Result ⊤ Trouble → Type 0
Prints old new text (Ok done) = Appends old new text
Prints old new text (Err (Reading e)) = Keeps old new
Prints old new text (Err (Writing e)) = (n : ℕ) × Appends old new (take n text)
