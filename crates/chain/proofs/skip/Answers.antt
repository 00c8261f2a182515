-- `chain::skip` meets its contract: i instructions are passed. Assumes nothing.
use native.Mathlib.Omega.{arith}
use Rattle.chain.specs.Chain.{skip_none, skip_more, skip_few}
use Rattle.chain.proofs.skip.Goals as goal

pub loop-i-init : goal.loop-i-init
loop-i-init c = skip_none _ _

pub after-p-requires : goal.after-p-requires
after-p-requires c = skip_few _ _ _ c.loop-i.invariant (omega arith) (omega arith)

pub loop-i-preserved : goal.loop-i-preserved
loop-i-preserved c = skip_more _ _ _ c.loop-i.invariant c.after-p.ensures
