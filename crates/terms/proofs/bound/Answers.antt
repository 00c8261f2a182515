-- `terms::bound` meets its contract: the bound so far and that of the term at place i make the whole.
use Prim.Native.Nat.{ℕ}
use Rattle.terms.specs.Bounds.{bound, bound_step, bound_none}
use Rattle.terms.specs.ExtentLaws.{module_term}
use Rattle.terms.specs.Heads.{tree_at}
use mathlib.Core.Path.{ap}
use Rattle.std.proofs.lemmas.Grind.{common_steps}
use native.Mathlib.Omega.{arith}
use Rattle.terms.proofs.bound.Goals as goal

pub loop-i-init : goal.loop-i-init
loop-i-init c = let a = c.args in omega (arith, ap (λ (p : ℕ). bound (tree_at a.f.now p)) c.place_of-i.ensures.0, ap bound (module_term a.f.now a.n c.requires a.t))

pub loop-i-preserved : goal.loop-i-preserved
loop-i-preserved c = let a = c.args in
    grind (arith, common_steps, bound_step a.f.now c.loop-i.i c.head_of-x.result c.head_of-x.ensures.0, ap (λ (p : ℕ). bound (tree_at a.f.now p)) c.inner_no-i.ensures)

pub returns : goal.returns
returns c = omega (arith, bound_none c.args.f.now c.loop-i.i (omega arith), c.loop-i.invariant)
