-- `objects::local_in` meets its contract: the last of its local entries. Assumes nothing.
use native.Mathlib.Omega.{arith}
use Rattle.objects.specs.Homes.{local_by}
use Rattle.objects.proofs.local_in.Goals as goal

pub returns : goal.returns
returns c = local_by _ _ _ _ c.head-h.ensures c.from.ensures c.from-2.ensures (omega arith) c.local_of.ensures
