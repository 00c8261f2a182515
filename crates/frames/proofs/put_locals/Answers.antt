-- `frames::put_locals` meets its contract: one after the other, as the definition has it.
use mathlib.Core.Path.{◌≡◌, refl}
use native.Mathlib.Omega.{arith}
use Rattle.regions.specs.Regions.{filled_none, filled_more}
use Rattle.state.specs.Filling.{regions_none}
use Rattle.frames.specs.Entered.{locals_more}
use borrow.Author.Rules.{rules}
use Rattle.frames.proofs.put_locals.Goals as goal

pub loop-i-init : goal.loop-i-init
loop-i-init c = (c.requires.0, filled_none _ _, regions_none _ _ _ _)

pub loop-i-preserved : goal.loop-i-preserved
loop-i-preserved c = (search rules, filled_more _ _ _ _ _ _ c.loop-i.invariant.1 refl c.put_local.ensures.1, locals_more _ _ _ _ _ _ _ _ _ _ c.loop-i.invariant.1 c.loop-i.invariant.2 refl c.put_local.ensures.0)

pub returns : goal.returns
returns c = let e : c.loop-i.i ≡ c.args.m = omega arith in (rw e at c.loop-i.invariant.2, rw e at c.loop-i.invariant.1)
