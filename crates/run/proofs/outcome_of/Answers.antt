-- `outcome_of` meets its contract by the tests of the status.
use Rattle.run.specs.Outcomes.{running_is, ended_is, stopped_is}
use Rattle.run.proofs.outcome_of.Goals as goal

pub returns-then-n-eq0 : goal.returns-then-n-eq0
returns-then-n-eq0 c = running_is _ _ c.status-n.ensures c.if-n-eq0.true

pub returns-then-n-eq1 : goal.returns-then-n-eq1
returns-then-n-eq1 c = ended_is _ _ c.status-n.ensures _ c.result.ensures c.if-n-eq0.false c.if-n-eq1.true

pub returns-else-n-eq1 : goal.returns-else-n-eq1
returns-else-n-eq1 c = stopped_is _ _ c.status-n.ensures c.if-n-eq0.false c.if-n-eq1.false
