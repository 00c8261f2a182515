-- `stands_at` meets its contract: both types are closed by the frame's map.
use Rattle.pointers.specs.Checks.{variable_at, stands_is}
use Rattle.pointers.proofs.stands_at.Goals as goal

pub entry-r-requires : goal.entry-r-requires
entry-r-requires c = (c.requires.0.size, c.requires.0.frame, variable_at c.requires.0 c.requires.1 c.region_variable.ensures)

pub returns : goal.returns
returns c = stands_is _ _ _ _ _ _ c.requires.3 c.map_of-map.ensures c.entry-r.ensures c.region_variable.ensures c.owner-owner.ensures c.region_term-u.ensures c.target_term-t.ensures c.stands.ensures
