-- Histories: lists of adds, runs joined, and further adds to what that gave, held against the reference (SPECIFICATION, "Accuracy";
-- document 02, job 6).
-- Assumes nothing.
use Rattle.std.specs.Prelude.{◌+◌, ◌≡◌, true, false, cond, List, eqb}
use Rattle.units.specs.Fractions.{plus}
use Rattle.inventory.specs.declared.Head.{Head}
use Rattle.inventory.specs.declared.Record.{Record}
use Rattle.inventory.specs.declared.Run.{Run}
use Rattle.inventory.specs.Order.{same_head}
use Rattle.inventory.specs.Opening.{open_number, open_run}
use Rattle.joins.specs.Joining.{join_number, join_run}
use Rattle.accuracy.specs.Reference.{Reference, reference_from, reference_of}
use Rattle.accuracy.specs.Conditions.{heads_differ, joining_number}
use Rattle.accuracy.specs.Claim.{run_after, ListClaim}

-- how a run came to be
pub data History : Type 0 where
  -- a list of adds to the run that opening gave for a head
  opened : Head → List Record → History
  -- the runs of two histories, joined
  joins : History → History → History
  -- a list of further adds to the run of a history, measured by this head
  further : History → Head → List Record → History

-- the head whose L and X the run has
unfoldable pub head_of : History → Head
head_of (opened head recs) = head
head_of (joins a b) = head_of a
head_of (further a head recs) = head_of a

-- opening takes each head, and further adds are measured by one with the L and X that the run has
abbrev pub HeadsTaken : History → Type 0
HeadsTaken (opened head recs) = open_number head ≡ 0
HeadsTaken (joins a b) = HeadsTaken a × HeadsTaken b
HeadsTaken (further a head recs) = HeadsTaken a × (open_number head ≡ 0) × (heads_differ (head_of a) head ≡ false)

-- the run: each add and each join on what the one before it gave back, refused or not
unfoldable pub history_run : History → Run
history_run (opened head recs) = run_after (open_run head) recs
history_run (joins a b) = join_run (history_run a) (history_run b)
history_run (further a head recs) = run_after (history_run a) recs

-- two references added up
unfoldable pub together : Reference → Reference → Reference
together s t =
    record { count = s.count + t.count; km = λ fuel. s.km fuel + t.km fuel; exact = λ fuel quantity. plus (s.exact fuel quantity) (t.exact fuel quantity) }

-- the reference of a join, decided by heads and counts, never by a run: the first's where 21 or 22 fits
unfoldable pub joined_reference : Head → Head → Reference → Reference → Reference
joined_reference p q s t = cond (eqb (joining_number p q s.count t.count) 0) (together s t) s

-- the reference, fed heads and records alone, each record measured by the head that it was added under
unfoldable pub history_reference : History → Reference
history_reference (opened head recs) = reference_of head recs
history_reference (joins a b) = joined_reference (head_of a) (head_of b) (history_reference a) (history_reference b)
history_reference (further a head recs) = reference_from head (history_reference a) recs

pub record HistoryClaim : Type 0 where
  -- what holds of every list of adds holds of every history
  pub each : (h : History) → HeadsTaken h → ListClaim (history_run h) (history_reference h)
  -- a join of two histories gets the number that the reference tells by itself; 16 fits neither run
  pub number : (a b : History) → HeadsTaken a → HeadsTaken b
      → join_number (history_run a) (history_run b) ≡ joining_number (head_of a) (head_of b) (history_reference a).count (history_reference b).count
  -- the run of a history has the L and X of its first head
  pub head : (h : History) → HeadsTaken h → same_head (history_run h) (open_run (head_of h)) ≡ true
