-- `locals_ok` meets its contract: every local region is right. Assumes nothing.
use Rattle.std.proofs.Common.{arith, refl, rules}
use Rattle.std.proofs.lemmas.Iterator.{YieldsList-from_range}
use Rattle.stack.specs.Facts.{locals_by}
use Rattle.stack.proofs.Scan.{tells_below}
use Rattle.stack.proofs.untested.UntestedState.locals_ok.Goals as goal

pub returns : goal.returns
returns c = locals_by c.head-h.ensures refl refl (tells_below (YieldsList-from_range 0 _ _ refl (omega arith)) c.all.ensures.ran (λ x b q k. search rules))
