-- `chain::frames::link_ok` meets its contract: the highest frame stands where it likes. Assumes nothing.
use Rattle.stack.specs.Tells.{tells_yes}
use Rattle.chain.specs.Frames.{link_by, link_last}
use Rattle.chain.proofs.frames.link_ok.Goals as goal

pub returns-then-k-state : goal.returns-then-k-state
returns-then-k-state c = link_by c.if-k-state.true c.linked.ensures

pub returns-else-k-state : goal.returns-else-k-state
returns-else-k-state c = tells_yes (link_last c.if-k-state.false)
