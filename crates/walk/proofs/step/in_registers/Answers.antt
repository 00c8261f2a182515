-- `walk::step::in_registers` meets its contract: by the branch that was taken. Assumes nothing.
use borrow.Author.Tests.{eq-eqb, ne_eqb, le-leb, lt-leb}
use Rattle.rules.specs.Walk.{step}
use Rattle.walk.proofs.step.in_registers.Goals as goal

pub returns-then-left-le-MOST_ENTRIES : goal.returns-then-left-le-MOST_ENTRIES
unfolding step
returns-then-left-le-MOST_ENTRIES c = rw (eq-eqb _ _ c.if-x-eq-REGISTERS.true, le-leb _ _ c.if-left-le-MOST_ENTRIES.true) c.to_code.ensures

pub returns-else-left-le-MOST_ENTRIES : goal.returns-else-left-le-MOST_ENTRIES
unfolding step
returns-else-left-le-MOST_ENTRIES c = rw (eq-eqb _ _ c.if-x-eq-REGISTERS.true, lt-leb _ _ c.if-left-le-MOST_ENTRIES.false) c.to.ensures

pub returns-else-x-eq-REGISTERS : goal.returns-else-x-eq-REGISTERS
unfolding step
returns-else-x-eq-REGISTERS c = rw (ne_eqb _ _ c.if-x-eq-REGISTERS.false) c.to-else-x-eq-REGISTERS.ensures
