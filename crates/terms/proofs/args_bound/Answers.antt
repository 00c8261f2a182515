-- `terms::args_bound` meets its contract: the bound so far and that of the arguments left make the whole.
use Rattle.terms.specs.Bounds.{args_all, args_more, args_done}
use Rattle.std.proofs.lemmas.Grind.{common_steps}
use native.Mathlib.Omega.{arith}
use Rattle.terms.proofs.args_bound.Goals as goal

pub loop-i-init : goal.loop-i-init
loop-i-init c = omega (arith, args_all c.args.d c.args.n)

pub loop-i-preserved : goal.loop-i-preserved
loop-i-preserved c = grind (arith, common_steps, args_more c.args.d c.loop-i.i c.args.n (omega arith))

pub returns : goal.returns
returns c = omega (arith, args_done c.args.d c.loop-i.i c.args.n (omega arith))
