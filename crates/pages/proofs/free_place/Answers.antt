-- `pages::free_place` meets its contract: one write.
use Rattle.rules.specs.State.{written}
use Rattle.pages.proofs.free_place.Goals as goal

pub returns : goal.returns
unfolding written
returns c = c.clear_mark.ensures
