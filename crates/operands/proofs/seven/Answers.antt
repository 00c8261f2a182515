-- `operands::seven` meets its contract: all of the seven entries, in a row. Assumes nothing.
use mathlib.Core.Path.{◌∙◌}
use Rattle.operands.specs.Entries.{slots_seven}
use Rattle.operands.proofs.seven.Goals as goal

pub returns : goal.returns
returns c = rw c.entries.ensures at c.slots.ensures ∙ slots_seven c.args.x c.args.n c.args.lim
