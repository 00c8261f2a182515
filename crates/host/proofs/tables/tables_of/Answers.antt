-- `host::tables::tables_of` meets its contract: what acceptance gives of its tables.
use Rattle.guarantees.specs.Accepted.{given}
use Rattle.host.specs.Ready.{ready}
use Rattle.host.proofs.tables.tables_of.Goals as goal

pub extents-extents-requires : goal.extents-extents-requires
extents-extents-requires c = let g = given _ c.requires _ c.tables_of-t.ensures in (g.counted, g.ranged)

pub returns : goal.returns
returns c = ready _ _ _ c.requires c.tables_of-t.ensures c.extents-extents.ensures
