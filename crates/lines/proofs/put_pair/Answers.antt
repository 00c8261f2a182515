-- `put_pair` meets its contract: one number behind the other.
use native.Mathlib.Omega.{arith}
use Rattle.lines.specs.Writing.{puts_then}
use Rattle.lines.proofs.put_pair.Goals as goal

pub returns : goal.returns
returns c = (puts_then c.put_number-i.ensures.0 c.put_number.ensures.0, omega arith)
