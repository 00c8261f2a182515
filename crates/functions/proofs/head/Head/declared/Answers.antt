-- `functions::head::Head::declared` meets its contract: by the callees' contracts.
use mathlib.Core.Path.{ap₂}
use mathlib.Core.Bool.{◌&&◌}
use Rattle.functions.specs.Declares.{declared}
use Rattle.functions.proofs.head.Head.declared.Goals as goal

pub returns : goal.returns
unfolding declared
returns c = ap₂ ◌&&◌ c.regions_fit.ensures (ap₂ ◌&&◌ c.registers_fit.ensures c.result_fits.ensures)
