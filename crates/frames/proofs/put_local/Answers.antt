-- `frames::put_local` meets its contract, by what its calls ensure.
use Rattle.frames.proofs.put_local.Goals as goal

pub returns : goal.returns
returns c = (rw c.lowest_number-r.ensures.0 at c.put_region.ensures, rw c.lowest_number-r.ensures.0 at c.add_region.ensures)
