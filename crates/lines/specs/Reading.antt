-- What the functions that read a line promise.
-- Assumes nothing.
use Rattle.std.specs.Prelude.{ℕ}
use Rattle.inventory.specs.declared.Head.{Head}
use Rattle.lines.specs.declared.HeadLine.{HeadLine}

-- a head, and the bytes of its line with LF
abbrev pub head_line : ℕ → Head → HeadLine
head_line size head = record { head = head; size = size }
