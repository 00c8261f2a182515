-- `walk::step::to_name` meets its contract: by the branch that was taken. Assumes nothing.
use borrow.Author.Tests.{eq-eqb, ne_eqb}
use Rattle.rules.specs.Walk.{to_name}
use Rattle.walk.proofs.step.to_name.Goals as goal

pub returns-then-x-eq-NAME : goal.returns-then-x-eq-NAME
unfolding to_name
returns-then-x-eq-NAME c = rw (eq-eqb _ _ c.if-x-eq-NAME.true) c.named.ensures

pub returns-else-x-eq-NAME : goal.returns-else-x-eq-NAME
unfolding to_name
returns-else-x-eq-NAME c = rw (ne_eqb _ _ c.if-x-eq-NAME.false) c.to_function.ensures
