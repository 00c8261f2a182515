-- `words::bit_of` meets its contract: a shift brings the bit to the lowest place. Assumes nothing.
use native.Mathlib.Omega.{arith}
use Rattle.words.specs.BitLaws.{bit_shift}
use Rattle.words.proofs.bit_of.Goals as goal

pub returns : goal.returns
returns c = (bit_shift _ _, omega arith)
