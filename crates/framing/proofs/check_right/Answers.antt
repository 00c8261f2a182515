-- `framing::check_right` meets its contract: the two numbers. Assumes nothing.
use Rattle.framing.proofs.check_right.Goals as goal

pub returns : goal.returns
returns c = rw (c.word-said.ensures, c.check_sum-sum.ensures)
