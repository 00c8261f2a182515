-- `opening::open` meets its contract: that of `open_at` with all pages.
use Rattle.opening.proofs.open.Goals as goal

pub returns : goal.returns
returns c = rw c.all_pages.ensures at c.open_at.ensures
