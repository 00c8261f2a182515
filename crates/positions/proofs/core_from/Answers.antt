-- `positions::core_from` meets its contract: by its test.
use Rattle.positions.specs.Table.{core_from}
use Rattle.words.specs.Choose.{cond_lt, cond_nlt}
use mathlib.Core.Path.{sym}
use Rattle.positions.proofs.core_from.Goals as goal

pub returns-then-low-lt-FIRST_STRUCT : goal.returns-then-low-lt-FIRST_STRUCT
unfolding core_from
returns-then-low-lt-FIRST_STRUCT c = sym (cond_lt _ _ c.if-low-lt-FIRST_STRUCT.true)

pub returns-else-low-lt-FIRST_STRUCT : goal.returns-else-low-lt-FIRST_STRUCT
unfolding core_from
returns-else-low-lt-FIRST_STRUCT c = sym (cond_nlt _ _ c.if-low-lt-FIRST_STRUCT.false)
