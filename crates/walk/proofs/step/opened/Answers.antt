-- `walk::step::opened` meets its contract: by the branch that was taken. Assumes nothing.
use borrow.Author.Tests.{lt-ltb, le-ltb}
use Rattle.rules.specs.Walk.{opened}
use Rattle.walk.proofs.step.opened.Goals as goal

pub returns-then-n-gt0 : goal.returns-then-n-gt0
unfolding opened
returns-then-n-gt0 c = rw (lt-ltb _ _ (rw c.regions_of-n.ensures at c.if-n-gt0.true)) c.headed-v.ensures

pub returns-else-n-gt0 : goal.returns-else-n-gt0
unfolding opened
returns-else-n-gt0 c = rw (le-ltb _ _ (rw c.regions_of-n.ensures at c.if-n-gt0.false)) (rw c.headed-v.ensures at c.to_registers.ensures)
