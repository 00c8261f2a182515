-- `walk::tables::instructions` meets its contract: the loop holds the sum over the functions passed. Assumes nothing.
use mathlib.Core.Path.{◌≡◌}
use native.Mathlib.Omega.{arith}
use Rattle.walk.specs.Tables.{instructions_none, instructions_more}
use Rattle.walk.proofs.tables.instructions.Goals as goal

pub loop-g-init : goal.loop-g-init
loop-g-init c = (instructions_none _, omega arith)

pub overflow_add-sum : goal.overflow_add-sum
overflow_add-sum c = omega (arith, c.instructions_of-sum.ensures.1)

pub loop-g-preserved : goal.loop-g-preserved
loop-g-preserved c = (rw (instructions_more, c.instructions_of-sum.ensures.0, c.head_of.ensures, c.loop-g.invariant.0), omega (arith, c.instructions_of-sum.ensures.1))

pub returns : goal.returns
returns c = let e : c.loop-g.g ≡ c.args.n = omega arith in rw e at c.loop-g.invariant.0
