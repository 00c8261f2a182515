-- `walk::step::done` meets its contract: by the branch that was taken. Assumes nothing.
use borrow.Author.Tests.{le-leb, lt-leb}
use Rattle.rules.specs.Walk.{done}
use Rattle.walk.proofs.step.done.Goals as goal

pub returns-then-left-le1 : goal.returns-then-left-le1
unfolding done
returns-then-left-le1 c = rw (le-leb _ _ c.if-left-le1.true) c.to.ensures

pub returns-else-left-le1 : goal.returns-else-left-le1
unfolding done
returns-else-left-le1 c = rw (lt-leb _ _ c.if-left-le1.false) c.to-else-left-le1.ensures
