-- `walk::step::in_regions` meets its contract: by the branch that was taken. Assumes nothing.
use borrow.Author.Tests.{eq-eqb, ne_eqb}
use Rattle.rules.specs.Walk.{step}
use Rattle.walk.proofs.step.in_regions.Goals as goal

pub returns-then-x-eq-REGIONS : goal.returns-then-x-eq-REGIONS
unfolding step
returns-then-x-eq-REGIONS c = rw (eq-eqb _ _ c.if-x-eq-REGIONS.true) c.to_registers.ensures

pub returns-else-x-eq-REGIONS : goal.returns-else-x-eq-REGIONS
unfolding step
returns-else-x-eq-REGIONS c = rw (ne_eqb _ _ c.if-x-eq-REGIONS.false) c.to.ensures
