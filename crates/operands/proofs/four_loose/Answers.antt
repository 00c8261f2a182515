-- `operands::four_loose` meets its contract: all of the four bytes of d, in a row. Assumes nothing.
use mathlib.Core.Path.{◌∙◌}
use native.Mathlib.Omega.{arith}
use Rattle.operands.specs.Entries.{loose_four}
use Rattle.operands.proofs.four_loose.Goals as goal

pub returns : goal.returns
returns c = rw c.to_le_bytes.ensures at c.all_loose.ensures ∙ loose_four c.args.x c.args.lim (omega arith)
