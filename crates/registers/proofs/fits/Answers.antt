-- `registers::fits` meets its contract: by the width. Assumes nothing.
use native.Mathlib.Omega.{arith}
use Rattle.stack.specs.Tells.{tells_yes}
use Rattle.registers.specs.Value.{fits_all}
use Rattle.registers.proofs.fits.Goals as goal

pub returns-in_default : goal.returns-in_default
returns-in_default c = tells_yes (fits_all _ (omega arith) (omega arith) (omega arith) (omega arith) (omega arith))
