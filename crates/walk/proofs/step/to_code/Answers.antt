-- `walk::step::to_code` meets its contract: by the branch that was taken. Assumes nothing.
use borrow.Author.Tests.{lt-ltb, le-ltb}
use Rattle.rules.specs.Walk.{to_code}
use Rattle.walk.proofs.step.to_code.Goals as goal

pub returns-then-w-gt0 : goal.returns-then-w-gt0
unfolding to_code
returns-then-w-gt0 c = rw (lt-ltb _ _ c.if-w-gt0.true) c.to.ensures

pub returns-else-w-gt0 : goal.returns-else-w-gt0
unfolding to_code
returns-else-w-gt0 c = rw (le-ltb _ _ c.if-w-gt0.false) c.to-else-w-gt0.ensures
