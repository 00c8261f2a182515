-- `untyped_at` meets its contract: the type of the region, if it is live. Assumes nothing.
use Rattle.stack.specs.Tells.{tells_no}
use Rattle.registers.specs.Value.{untyped_none, untyped_some}
use Rattle.registers.proofs.mapped.MappedState.untyped_at.Goals as goal

pub returns-in_default : goal.returns-in_default
returns-in_default c = tells_no (untyped_none _ _ _ _ (rw c.from.ensures at c.in_default.ensures))

pub returns : goal.returns
returns c = untyped_some (rw c.from.ensures at c.in-Some.ensures) c.args.self.now.narrow c.owner-owner.ensures c.in_untyped.ensures
