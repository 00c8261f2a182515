-- `shape::spare::zero` meets its contract: the bytes that there are. Assumes nothing.
use mathlib.Core.Path.{refl}
use native.Mathlib.Omega.{arith}
use Rattle.shape.specs.Zeros.{zero_past}
use Rattle.shape.proofs.spare.zero.Goals as goal

pub returns-else-to-n : goal.returns-else-to-n
returns-else-to-n c = zero_past refl (omega arith) c.zero_in-else-to-n.ensures
