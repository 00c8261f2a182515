-- `regions::add_locals` meets its contract: region by region, as the definition has it.
use mathlib.Core.Path.{◌≡◌, ◌∙◌}
use native.Mathlib.Omega.{arith}
use Rattle.regions.specs.Regions.{locals_marked, locals_none}
use Rattle.regions.proofs.add_locals.Goals as goal

pub loop-i-init : goal.loop-i-init
loop-i-init c = locals_none _ _ _

pub loop-i-preserved : goal.loop-i-preserved
loop-i-preserved c = c.add_region.ensures ∙ locals_marked _ _ _ _ _ _ c.loop-i.invariant c.region_of-r.ensures

pub returns : goal.returns
returns c = let e : c.loop-i.i ≡ c.args.n = omega arith in rw e at c.loop-i.invariant
