-- `chain::frames::frames_ok` meets its contract: number, lowest function, and each frame. Assumes nothing.
use Rattle.std.proofs.Common.{arith, refl, rules}
use Rattle.std.proofs.lemmas.Iterator.{YieldsList-from_range}
use Rattle.stack.specs.Tells.{tells_le, tells_eq, tells_and, tells_or}
use Rattle.stack.proofs.Scan.{tells_below}
use Rattle.chain.specs.Frames.{frames_by}
use Rattle.chain.proofs.frames.frames_ok.Goals as goal

pub returns : goal.returns
returns c =
    frames_by c.args.state.now.counted c.function-g.ensures
    (tells_and (tells_le _ _) (tells_and (tells_or (tells_eq _ _) (tells_eq _ _)) (tells_below (YieldsList-from_range 0 _ _ refl (omega arith)) c.all-each.ensures.ran (λ x b q k. search rules))))
