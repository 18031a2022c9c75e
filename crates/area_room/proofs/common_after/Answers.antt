-- `area_room::common_after` meets its contract. Assumes nothing.
use borrow.Author.Tests.{le-leb, lt-leb}
use Rattle.area_room.proofs.common_after.Goals as goal

pub returns-then-count-lt300 : goal.returns-then-count-lt300
returns-then-count-lt300 c = rw (lt-leb 300 c.args.count c.if-count-lt300.true)

pub returns : goal.returns
returns c = rw (le-leb 300 c.args.count c.if-count-lt300.false)
