-- `marks::places_in` meets its contract: by whether objects have a size. Assumes nothing.
use Rattle.marks.specs.Ends.{places_all, places_some}
use Rattle.marks.proofs.places_in.Goals as goal

pub returns-then-size-eq0 : goal.returns-then-size-eq0
returns-then-size-eq0 c = places_all _ c.if-size-eq0.true

pub returns : goal.returns
returns c = places_some _ c.if-size-eq0.false
