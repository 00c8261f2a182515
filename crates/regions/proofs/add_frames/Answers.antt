-- `regions::add_frames` meets its contract: frame by frame, as the definition has it.
use mathlib.Core.Path.{◌≡◌}
use native.Mathlib.Omega.{arith}
use Rattle.regions.specs.Regions.{live_none, live_empty, live_next, live_counted}
use Rattle.regions.proofs.add_frames.Goals as goal

pub loop-k-init : goal.loop-k-init
loop-k-init c = (live_none _ _ _ _ _, live_empty _ _ _ _, omega arith)

pub add_locals-requires : goal.add_locals-requires
add_locals-requires c = omega (arith, c.requires.2.most c.function-g.result)

pub overflow_add-c : goal.overflow_add-c
overflow_add-c c = omega (arith, c.requires.2.most c.function-g.result)

pub loop-k-preserved : goal.loop-k-preserved
loop-k-preserved c = (live_next _ _ _ _ _ _ _ _ _ _ (rw c.function-g.ensures at c.count_of.ensures.0) (rw c.function-g.ensures at c.count_of-m.ensures.0) c.loop-k.invariant.0 c.add_locals.ensures, live_counted _ _ _ _ _ _ _ (rw c.function-g.ensures at c.count_of-m.ensures.0) c.loop-k.invariant.1, omega (arith, c.requires.2.most c.function-g.result))

pub returns : goal.returns
returns c = let e : c.loop-k.k ≡ c.args.n = omega arith in (rw e at c.loop-k.invariant.0, rw e at c.loop-k.invariant.1, omega arith)
