-- `chain::linked` meets its contract: the call, its callee and its regions. Assumes nothing.
use Rattle.std.proofs.Common.{arith, refl, rules}
use Rattle.std.proofs.lemmas.Iterator.{YieldsList-from_range}
use Rattle.chain.specs.Chain.{linked_by}
use Rattle.stack.specs.Tells.{tells_eq, tells_and}
use Rattle.stack.proofs.Scan.{tells_below}
use Rattle.chain.proofs.linked.Goals as goal

pub returns : goal.returns
returns c =
    linked_by _ _ _ c.requires.1 c.call_at-x.ensures c.function-g.ensures c.head-h.ensures c.from.ensures
    (tells_and (tells_eq _ _) (tells_and (tells_eq _ _) (tells_below (YieldsList-from_range 0 _ _ refl (omega arith)) c.all-through.ensures.ran (λ x b q k. search rules))))
