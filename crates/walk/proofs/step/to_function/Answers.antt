-- `walk::step::to_function` meets its contract: by the branch that was taken. Assumes nothing.
use borrow.Author.Tests.{eq-eqb, ne_eqb}
use Rattle.rules.specs.Walk.{to_function}
use Rattle.walk.proofs.step.to_function.Goals as goal

pub returns-then-x-eq-FUNCTION : goal.returns-then-x-eq-FUNCTION
unfolding to_function
returns-then-x-eq-FUNCTION c = rw (eq-eqb _ _ c.if-x-eq-FUNCTION.true) c.opened.ensures

pub returns-then-x-eq-FILLER : goal.returns-then-x-eq-FILLER
unfolding to_function
returns-then-x-eq-FILLER c = rw (ne_eqb _ _ c.if-x-eq-FUNCTION.false, eq-eqb _ _ c.if-x-eq-FILLER.true) c.to.ensures

pub returns-else-x-eq-FILLER : goal.returns-else-x-eq-FILLER
unfolding to_function
returns-else-x-eq-FILLER c = rw (ne_eqb _ _ c.if-x-eq-FUNCTION.false, ne_eqb _ _ c.if-x-eq-FILLER.false) c.to-else-x-eq-FILLER.ensures
