-- `host::tables::ranged` meets its contract: the two bytes of the range. Assumes nothing.
use Rattle.host.proofs.tables.ranged.Goals as goal

pub returns : goal.returns
returns c = cc
