-- `judgment::function::Function::together` meets its contract: by the registers' types.
use mathlib.Core.Path.{ap₂}
use mathlib.Core.Bool.{◌&&◌}
use lib.Dec.{eqb}
use Rattle.judgment.specs.Registers.{together}
use Rattle.judgment.proofs.function.Function.together.Goals as goal

pub returns : goal.returns
unfolding together
returns c =
    ap₂ ◌&&◌ (ap₂ ◌&&◌ (c.entry-d.ensures.pointer) (c.entry-e.ensures.pointer))
    (ap₂ eqb (c.entry-d.ensures.region) (c.entry-e.ensures.region))
