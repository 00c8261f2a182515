-- `shape::spare::spare_ok` meets its contract: the two areas and every frame. Assumes nothing.
use Rattle.std.proofs.Common.{refl, rules}
use Rattle.std.proofs.lemmas.Iterator.{YieldsList-from_range}
use Rattle.stack.proofs.Scan.{tells_below}
use Rattle.shape.specs.Spare.{spare_by}
use Rattle.shape.proofs.spare.spare_ok.Goals as goal

pub returns : goal.returns
returns c =
    spare_by c.args.state.now.counted c.zero-header.ensures c.zero-stack.ensures
    (tells_below (YieldsList-from_range 0 _ _ refl refl) c.all-each.ensures.ran (λ x b q k. search rules))
