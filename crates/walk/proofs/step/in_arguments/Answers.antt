-- `walk::step::in_arguments` meets its contract: by the branch that was taken. Assumes nothing.
use borrow.Author.Tests.{eq-eqb, ne_eqb}
use Rattle.rules.specs.Walk.{step}
use Rattle.walk.proofs.step.in_arguments.Goals as goal

pub returns-then-x-eq-ARGUMENTS : goal.returns-then-x-eq-ARGUMENTS
unfolding step
returns-then-x-eq-ARGUMENTS c = rw (eq-eqb _ _ c.if-x-eq-ARGUMENTS.true) c.done.ensures

pub returns-else-x-eq-ARGUMENTS : goal.returns-else-x-eq-ARGUMENTS
unfolding step
returns-else-x-eq-ARGUMENTS c = rw (ne_eqb _ _ c.if-x-eq-ARGUMENTS.false) c.to.ensures
