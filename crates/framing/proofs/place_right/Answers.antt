-- `framing::place_right` meets its contract: the two numbers. Assumes nothing.
use Rattle.framing.proofs.place_right.Goals as goal

pub returns : goal.returns
returns c = rw (c.half-count.ensures.0, c.half-place.ensures.0)
