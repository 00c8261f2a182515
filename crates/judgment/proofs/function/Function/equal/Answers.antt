-- `judgment::function::Function::equal` meets its contract: by the callee's.
use Rattle.judgment.proofs.function.Function.equal.Goals as goal

pub returns : goal.returns
returns c = rw (← c.from.ensures, ← c.from-2.ensures) c.equal.ensures
