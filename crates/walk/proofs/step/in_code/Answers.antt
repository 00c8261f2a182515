-- `walk::step::in_code` meets its contract: by the branch that was taken. Assumes nothing.
use borrow.Author.Tests.{eq-eqb, ne_eqb}
use mathlib.Core.Path.{sym, ◌∙◌}
use Rattle.rules.specs.Walk.{step}
use Rattle.walk.proofs.step.in_code.Goals as goal

pub returns-then-x-eq-CALL : goal.returns-then-x-eq-CALL
unfolding step
returns-then-x-eq-CALL c = rw (eq-eqb _ _ c.if-x-eq-CALL.true) c.called.ensures

pub returns-then-is_instruction : goal.returns-then-is_instruction
unfolding step
returns-then-is_instruction c = rw (ne_eqb _ _ c.if-x-eq-CALL.false, sym c.is_instruction.ensures ∙ c.if-is_instruction.true) c.done.ensures

pub returns-else-is_instruction : goal.returns-else-is_instruction
unfolding step
returns-else-is_instruction c = rw (ne_eqb _ _ c.if-x-eq-CALL.false, sym c.is_instruction.ensures ∙ c.if-is_instruction.false) c.to.ensures
