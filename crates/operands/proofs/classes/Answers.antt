-- `operands::classes` meets its contract: its array has the definition's numbers. Assumes nothing.
use mathlib.Core.Path.{◌∙◌}
use Rattle.rules.specs.Operands.{operand_table}
use Rattle.operands.specs.Classes.{table, row_numbers, past_numbers}
use Rattle.operands.proofs.classes.Goals as goal

pub returns-then-row-lt-KINDS : goal.returns-then-row-lt-KINDS
unfolding table operand_table
returns-then-row-lt-KINDS c = row_numbers _ _ (c.from-row.ensures ∙ c.saturating_sub.ensures) c.if-row-lt-KINDS.true

pub returns-else-row-lt-KINDS : goal.returns-else-row-lt-KINDS
returns-else-row-lt-KINDS c = past_numbers _ (c.from-row.ensures ∙ c.saturating_sub.ensures) c.if-row-lt-KINDS.false
