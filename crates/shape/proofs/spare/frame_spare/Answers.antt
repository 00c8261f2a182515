-- `shape::spare::frame_spare` meets its contract: in use or not. Assumes nothing.
use Rattle.shape.specs.Spare.{frame_used, frame_unused}
use Rattle.shape.proofs.spare.frame_spare.Goals as goal

pub returns-then-k-state : goal.returns-then-k-state
returns-then-k-state c = frame_used c.if-k-state.true c.used_spare.ensures

pub returns-else-k-state : goal.returns-else-k-state
returns-else-k-state c = frame_unused c.requires c.if-k-state.false c.frame_place-at.ensures c.zero.ensures
