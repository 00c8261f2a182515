-- `state::fresh::first_regions` meets its contract: one after the other.
use mathlib.Core.Path.{◌≡◌}
use native.Mathlib.Omega.{arith}
use Rattle.state.specs.Filling.{regions_none}
use Rattle.state.specs.Fresh.{locals_more}
use borrow.Author.Rules.{rules}
use Rattle.state.proofs.fresh.first_regions.Goals as goal

pub loop-i-init : goal.loop-i-init
loop-i-init c = (c.requires.0, regions_none _ _ _ _)

pub loop-i-preserved : goal.loop-i-preserved
loop-i-preserved c = (search rules, locals_more _ _ _ _ c.loop-i.invariant.1 c.put_region.ensures)

pub returns : goal.returns
returns c = let e : c.loop-i.i ≡ c.args.n = omega arith in rw e at c.loop-i.invariant.1
