-- `words::word` meets its contract: four bytes are two and two; past the end all is 0. Assumes nothing.
use mathlib.Core.Path.{sym}
use native.Mathlib.Omega.{arith}
use Rattle.words.specs.ByteLaws.{number_halves, number_past}
use Rattle.words.proofs.word.Goals as goal

pub returns-then-n-i-lt4 : goal.returns-then-n-i-lt4
returns-then-n-i-lt4 c = rw number_halves (omega arith)

pub returns-else-i-n : goal.returns-else-i-n
returns-else-i-n c = sym (number_past 4 _ _ c.if-i-n.false)
