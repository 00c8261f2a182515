-- `objects::local_of` meets its contract: no later entry leads to r. Assumes nothing.
use native.Mathlib.Omega.{arith}
use Prim.Native.Nat.{suc, ◌-◌}
use mathlib.Core.Path.{◌≡◌, refl, sym, ◌∙◌}
use Rattle.objects.specs.Homes.{last_hit, last_miss, last_end}
use Rattle.objects.proofs.local_of.Goals as goal

pub loop-j-init : goal.loop-j-init
loop-j-init c = refl

pub returns-then-region-r : goal.returns-then-region-r
returns-then-region-r c =
    let e : suc (c.loop-j.j - 1) ≡ c.loop-j.j = omega arith in
    e ∙ sym (c.loop-j.invariant ∙ last_hit _ _ _ _ (omega arith) (sym c.region.ensures.0 ∙ c.if-region-r.true))

pub loop-j-preserved : goal.loop-j-preserved
loop-j-preserved c = c.loop-j.invariant ∙ last_miss _ _ _ _ (omega arith) (λ e. c.if-region-r.false (c.region.ensures.0 ∙ e))

pub returns : goal.returns
returns c = last_end _ _ _ _ _ c.loop-j.invariant c.loop-j-test.false
