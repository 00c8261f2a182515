-- `shape::spare::zero_in` meets its contract: the answer is that of the bytes before i. Assumes nothing.
use mathlib.Core.Path.{refl}
use mathlib.Core.Logic.{inl, inr}
use native.Mathlib.Omega.{arith}
use Rattle.shape.specs.Zeros.{zero_none, zero_more, zero_ended}
use Rattle.shape.proofs.spare.zero_in.Goals as goal

pub loop-i-init : goal.loop-i-init
loop-i-init c = (inr refl, zero_none _)

pub loop-i-preserved : goal.loop-i-preserved
loop-i-preserved c = (inl (omega arith), zero_more (omega arith) refl c.loop-i.invariant.1)

pub returns : goal.returns
returns c = zero_ended c.loop-i-test.false c.loop-i.invariant.0 c.loop-i.invariant.1
