-- `walk::step::in_terms` meets its contract: by the branch that was taken. Assumes nothing.
use mathlib.Core.Path.{sym, ◌∙◌}
use Rattle.rules.specs.Walk.{step}
use Rattle.walk.proofs.step.in_terms.Goals as goal

pub returns-then-is_term : goal.returns-then-is_term
unfolding step
returns-then-is_term c = rw (sym c.is_term.ensures ∙ c.if-is_term.true) c.to_term.ensures

pub returns-else-is_term : goal.returns-else-is_term
unfolding step
returns-else-is_term c = rw (sym c.is_term.ensures ∙ c.if-is_term.false) c.to_name.ensures
