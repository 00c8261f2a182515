-- `region_extent` meets its contract: that of its type. Assumes nothing.
use Rattle.objects.specs.Homes.{extent_none, extent_some}
use Rattle.objects.proofs.typed.TypedState.region_extent.Goals as goal

pub returns-in-Some : goal.returns-in-Some
returns-in-Some c = extent_some c.in-Some.ensures c.extent_of.ensures

pub returns-in-None : goal.returns-in-None
returns-in-None c = extent_none _ _ _ _ c.in-None.ensures
