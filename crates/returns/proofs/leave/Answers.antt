-- `returns::leave` meets its contract: the writes of its calls, one after the other.
use Rattle.returns.specs.Left.{left_is, left_used}
use Rattle.returns.proofs.leave.Goals as goal

pub returns : goal.returns
returns c = (left_is _ _ _ _ _ _ c.close_locals.ensures.0 c.clear_frame.ensures c.put_frames.ensures, left_used _ _ _ _ _ c.clear_frame.ensures c.put_frames.ensures c.close_locals.ensures.1)
