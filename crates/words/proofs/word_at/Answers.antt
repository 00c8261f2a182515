-- `words::word_at` meets its contract: the number of four bytes written out. Assumes nothing.
use native.Mathlib.Omega.{arith}
use Rattle.words.specs.ByteLaws.{number_four}
use Rattle.words.proofs.word_at.Goals as goal

pub returns : goal.returns
returns c = rw number_four (omega arith)
