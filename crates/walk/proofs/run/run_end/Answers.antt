-- `walk::run::run_end` meets its contract: every record passed is counted and no more. Assumes nothing.
use mathlib.Core.Path.{◌≡◌, refl, sym, ap, ◌∙◌}
use Prim.Native.Nat.{◌<◌, ◌-◌}
use native.Mathlib.Omega.{arith}
use borrow.Author.Tests.{ltb-true}
use lib.Dec.{ltb}
use Rattle.words.specs.Choose.{both}
use Rattle.rules.specs.declared.Walk.{Walk}
use Rattle.walk.specs.Run.{in_code_law, run_none, run_more}
use Rattle.walk.proofs.run.run_end.Goals as goal

pub returns-then-not-in_code : goal.returns-then-not-in_code
returns-then-not-in_code c = run_none _ c.requires.fact_1 c.requires.fact_2

pub loop-r-init : goal.loop-r-init
loop-r-init c =
    let same = c.requires.fact_1 in
    let left = ap (λ (w : Walk). w.left) same in (
      run_none _ refl c.requires.fact_2,
      omega arith,
      sym (ap (λ (w : Walk). w.phase) same) ∙ in_code_law _ (sym c.in_code.ensures ∙ c.if-not-in_code.false),
    )

pub returns-then-not-counted_only : goal.returns-then-not-counted_only
returns-then-not-counted_only c = rw c.requires.fact_1 c.loop-r.invariant.0

pub overflow_sub-left : goal.overflow_sub-left
overflow_sub-left c = let h : 1 < c.loop-r.left = ltb-true 1 _ (both (ltb 1 c.loop-r.left) _ (sym c.counted_only.ensures ∙ c.if-not-counted_only.false)).0 in omega arith

pub loop-r-preserved : goal.loop-r-preserved
loop-r-preserved c =
    let inv = c.loop-r.invariant in
    let counted = sym (rw (c.byte_at.ensures, inv.1) at c.counted_only.ensures) ∙ c.if-not-counted_only.false in (
      run_more _ inv.0 inv.2 (omega arith) counted,
      omega (arith, inv.0.from),
      inv.2,
    )

pub returns : goal.returns
returns c = let e : c.loop-r.r ≡ c.args.n - 1 = omega arith in rw (c.requires.fact_1, ← e) c.loop-r.invariant.0
