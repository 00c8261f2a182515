-- `stands_at` meets its contract: the type of the region, if it is live. Assumes nothing.
use Rattle.stack.specs.Tells.{tells_no}
use Rattle.registers.specs.Value.{stands_none, stands_some}
use Rattle.memo.specs.Memo.{remembers_none}
use Rattle.registers.proofs.mapped.MappedState.stands_at.Goals as goal

pub returns-in_default : goal.returns-in_default
returns-in_default c = tells_no (stands_none _ _ _ _ (rw c.from.ensures at c.in_default.ensures))

pub stands_known-requires-clause-fact_2 : goal.stands_known-requires-clause-fact_2
stands_known-requires-clause-fact_2 c = remembers_none 256

pub returns : goal.returns
returns c = stands_some (rw c.from.ensures at c.in-Some.ensures) _ _ c.args.self.now.narrow c.map_of-p.ensures c.map_of-q.ensures c.owner-owner.ensures c.stands_known.ensures.0
