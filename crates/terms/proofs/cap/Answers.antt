-- `terms::cap` meets its contract: the least of the two is what the definition's test chooses.
use Rattle.std.proofs.Common.{arith}
use Rattle.std.proofs.lemmas.Grind.{common_steps}
use Rattle.terms.specs.Extents.{cap}
use Rattle.terms.proofs.cap.Goals as goal

pub returns : goal.returns
unfolding cap
returns c = (grind (arith, common_steps), omega arith)
