-- `not_live` meets its contract: no frame has it. Assumes nothing.
use Rattle.std.proofs.Common.{arith, refl, rules}
use Rattle.std.proofs.lemmas.Iterator.{YieldsList-from_range}
use Rattle.stack.specs.Facts.{live_by_law}
use Rattle.stack.proofs.Scan.{tells_below}
use Rattle.stack.proofs.untested.UntestedState.not_live.Goals as goal

pub returns : goal.returns
returns c = live_by_law (tells_below (YieldsList-from_range 0 _ _ refl (omega arith)) c.all.ensures.ran (λ x b q k. search rules))
