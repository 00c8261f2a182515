-- `walk::step::in_fields` meets its contract: by the branch that was taken. Assumes nothing.
use borrow.Author.Tests.{eq-eqb, ne_eqb}
use Rattle.rules.specs.Walk.{step}
use Rattle.walk.proofs.step.in_fields.Goals as goal

pub returns-then-x-eq-FIELDS : goal.returns-then-x-eq-FIELDS
unfolding step
returns-then-x-eq-FIELDS c = rw (eq-eqb _ _ c.if-x-eq-FIELDS.true) c.to.ensures

pub returns-else-x-eq-FIELDS : goal.returns-else-x-eq-FIELDS
unfolding step
returns-else-x-eq-FIELDS c = rw (ne_eqb _ _ c.if-x-eq-FIELDS.false) c.to-else-x-eq-FIELDS.ensures
