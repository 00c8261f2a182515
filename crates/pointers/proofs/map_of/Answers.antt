-- `map_of` meets its contract: its seven entries.
use Rattle.positions.specs.Maps.{map_is}
use Rattle.pointers.proofs.map_of.Goals as goal

pub returns : goal.returns
returns c = map_is _ _ c.entry.ensures c.entry-2.ensures c.entry-3.ensures c.entry-4.ensures c.entry-5.ensures c.entry-6.ensures c.entry-7.ensures
