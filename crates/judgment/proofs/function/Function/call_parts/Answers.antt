-- `judgment::function::Function::call_parts` meets its contract: by the callees' contracts.
use mathlib.Core.Path.{ap₂}
use mathlib.Core.Bool.{◌&&◌}
use Rattle.judgment.specs.Calls.{call_parts}
use Rattle.judgment.proofs.function.Function.call_parts.Goals as goal

pub returns : goal.returns
unfolding call_parts
returns c = ap₂ ◌&&◌ c.call_result.ensures (ap₂ ◌&&◌ c.call_regions.ensures c.call_arguments.ensures)
