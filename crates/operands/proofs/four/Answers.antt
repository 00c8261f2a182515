-- `operands::four` meets its contract: all of the four bytes of d, in a row. Assumes nothing.
use mathlib.Core.Path.{◌∙◌}
use native.Mathlib.Omega.{arith}
use Rattle.operands.specs.Entries.{slots_four}
use Rattle.operands.proofs.four.Goals as goal

pub returns : goal.returns
returns c = rw c.to_le_bytes.ensures at c.slots.ensures ∙ slots_four c.args.x c.args.n c.args.lim (omega arith)
