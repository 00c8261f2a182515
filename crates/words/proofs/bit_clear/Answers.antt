-- `words::bit_clear` meets its contract: an and with all but the mask clears the bit. Assumes nothing.
use native.Mathlib.Omega.{arith}
use Rattle.words.specs.BitLaws.{and_clears}
use Rattle.words.proofs.bit_clear.Goals as goal

pub returns : goal.returns
returns c = and_clears _ _ (omega arith) c.requires
