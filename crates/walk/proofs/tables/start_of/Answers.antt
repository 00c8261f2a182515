-- `walk::tables::start_of` meets its contract: the entry of the table. Assumes nothing.
use Rattle.walk.specs.Tables.{start_at}
use Rattle.walk.proofs.tables.start_of.Goals as goal

pub bounds-starts-g : goal.bounds-starts-g
bounds-starts-g c = c.requires.fact_2

pub returns : goal.returns
returns c = rw c.requires.fact_1 (start_at _ _ c.requires.fact_2)
