-- `objects::extent_of` meets its contract: by whether the region is untyped. Assumes nothing.
use Rattle.objects.specs.Homes.{extent_untyped, extent_typed}
use Rattle.objects.proofs.extent_of.Goals as goal

pub returns-then-v-eq-UNTYPED : goal.returns-then-v-eq-UNTYPED
returns-then-v-eq-UNTYPED c = extent_untyped _ _ c.if-v-eq-UNTYPED.true

pub returns : goal.returns
returns c = extent_typed _ _ c.if-v-eq-UNTYPED.false c.extent_at.ensures
