-- A head as it crosses to C (SPECIFICATION, "C interface").
-- Assumes nothing.
use Rattle.calendar.specs.Periods.{period_from}
use Rattle.inventory.specs.declared.Head.{Head}
use Rattle.capi_heads.specs.declared.HeadNumbers.{HeadNumbers}

-- first and last are 0 and 0 without dates, anything else is dated
abbrev pub head_from : HeadNumbers → Head
head_from h = record { trip = h.trip; temps = h.temps; period = period_from h.first h.last }
