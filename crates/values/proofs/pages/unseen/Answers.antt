-- `values::pages::unseen` meets its contract: no page before p has the owner. Assumes nothing.
use Rattle.std.proofs.Common.{arith, refl, rules}
use Rattle.std.proofs.lemmas.Iterator.{YieldsList-from_range}
use Rattle.stack.proofs.Scan.{tells_below}
use Rattle.values.proofs.pages.unseen.Goals as goal

pub returns : goal.returns
returns c = tells_below (YieldsList-from_range 0 _ _ refl (omega arith)) c.all.ensures.ran (λ x b q k. search rules)
