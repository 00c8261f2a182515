-- `walk::tables::head_of` meets its contract: the record at the start. Assumes nothing.
use Rattle.rules.specs.Decode.{start_of}
use Rattle.walk.proofs.tables.head_of.Goals as goal

pub returns : goal.returns
unfolding start_of
returns c = rw c.start_of.ensures at c.record_at.ensures
