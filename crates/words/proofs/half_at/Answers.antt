-- `words::half_at` meets its contract: the number of two bytes written out. Assumes nothing.
use native.Mathlib.Omega.{arith}
use Rattle.words.specs.ByteLaws.{number_two}
use Rattle.words.proofs.half_at.Goals as goal

pub returns : goal.returns
returns c = rw number_two (omega arith)
