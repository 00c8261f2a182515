-- `objects::home_of` meets its contract: the highest frame that has it, and there the entry of record 8. Assumes nothing.
use native.Mathlib.Omega.{arith}
use Prim.Native.Nat.{suc, ◌-◌}
use mathlib.Core.Path.{◌≡◌, refl, sym, ◌∙◌}
use Rattle.objects.specs.Homes.{frame_hit, frame_miss, frame_end, home_none, home_some}
use Rattle.objects.proofs.home_of.Goals as goal

pub loop-k-init : goal.loop-k-init
loop-k-init c = refl

pub returns-in-Some : goal.returns-in-Some
returns-in-Some c =
    let e : c.loop-k.k ≡ suc (c.loop-k.k - 1) = omega arith in
    home_some (c.loop-k.invariant ∙ frame_hit _ _ _ _ (omega arith) c.in-Some.ensures.0 (omega arith) ∙ e) c.in-Some.ensures.0 c.head-h.ensures c.from.ensures c.entry_of-entry.ensures

pub loop-k-preserved : goal.loop-k-preserved
loop-k-preserved c = c.loop-k.invariant ∙ frame_miss _ _ _ _ (omega arith) c.in_default.ensures.0 (omega arith)

pub returns : goal.returns
returns c = home_none _ _ _ _ (sym (frame_end _ _ _ _ _ c.loop-k.invariant c.loop-k-test.false))
