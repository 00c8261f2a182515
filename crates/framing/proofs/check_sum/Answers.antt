-- `framing::check_sum` meets its contract: the loop holds the sum of the bytes passed, which is small. Assumes nothing.
use native.Mathlib.Omega.{arith}
use Rattle.framing.specs.Framing.{check_sum_none, check_sum_more, term_small}
use Rattle.framing.proofs.check_sum.Goals as goal

pub loop-i-init : goal.loop-i-init
loop-i-init c = (check_sum_none _ _, omega arith)

pub overflow_mul-sum : goal.overflow_mul-sum
overflow_mul-sum c = let h = term_small c.loop-i.i c.from.result (omega arith) (omega (arith, c.from.ensures)) in omega arith

pub overflow_add-sum-in-loop-i : goal.overflow_add-sum-in-loop-i
overflow_add-sum-in-loop-i c = let h = term_small c.loop-i.i c.from.result (omega arith) (omega (arith, c.from.ensures)) in omega arith

pub loop-i-preserved : goal.loop-i-preserved
loop-i-preserved c = let h = term_small c.loop-i.i c.from.result (omega arith) (omega (arith, c.from.ensures)) in (rw (check_sum_more, c.from.ensures, c.byte.ensures, c.loop-i.invariant.0), omega arith)
