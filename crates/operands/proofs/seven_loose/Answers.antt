-- `operands::seven_loose` meets its contract: all of the seven entries, in a row. Assumes nothing.
use mathlib.Core.Path.{◌∙◌}
use Rattle.operands.specs.Entries.{loose_seven}
use Rattle.operands.proofs.seven_loose.Goals as goal

pub returns : goal.returns
returns c = rw c.entries.ensures at c.all_loose.ensures ∙ loose_seven c.args.x c.args.lim
