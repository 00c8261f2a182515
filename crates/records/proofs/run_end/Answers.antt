-- `records::run_end` meets its contract: every record passed is counted and no more, and fits. Assumes nothing.
use mathlib.Core.Path.{◌≡◌, refl, sym, ap, ◌∙◌}
use mathlib.Core.Bool.{true, ◌&&◌}
use mathlib.Core.Logic.{⊎_elim}
use mathlib.Core.List.{List}
use Prim.Native.Nat.{ℕ, ◌-◌}
use native.Mathlib.Omega.{arith}
use Rattle.words.specs.Choose.{both, lt_or_le}
use Rattle.rules.specs.declared.Walk.{Walk}
use Rattle.walk.specs.Run.{counted_only, in_code_law, run_none, run_more}
use Rattle.operands.specs.Limits.{limits_of, below_limits}
use Rattle.records.specs.Records.{plain_test}
use Rattle.records.proofs.run_end.Goals as goal

pub returns-then-not-in_code : goal.returns-then-not-in_code
returns-then-not-in_code c = (run_none _ c.requires.fact_2 c.requires.fact_3, λ j l m. absurd (omega arith))

pub loop-r-init : goal.loop-r-init
loop-r-init c =
    let same = c.requires.fact_2 in (
      run_none _ refl c.requires.fact_3,
      sym (ap (λ (w : Walk). w.phase) same) ∙ in_code_law _ (sym c.in_code.ensures ∙ c.if-not-in_code.false),
      λ j l m. absurd (omega arith),
    )

pub overflow_sub-w : goal.overflow_sub-w
overflow_sub-w c = omega (arith, c.loop-r.invariant.0.from, c.loop-r.invariant.0.many, ap (λ (w : Walk). w.left) c.requires.fact_2)

pub returns-then-not-plainly_fits : goal.returns-then-not-plainly_fits
returns-then-not-plainly_fits c = (rw c.requires.fact_2 c.loop-r.invariant.0, c.loop-r.invariant.2)

pub loop-r-preserved : goal.loop-r-preserved
loop-r-preserved c =
    let f = c.args.f.now in
    let same = c.requires.fact_2 in
    let inv = c.loop-r.invariant in
    let x = c.record_at-x.result in
    let hx = c.record_at-x.ensures in
    let left = c.args.w.left - (c.loop-r.r - c.args.from) in
    let test = sym c.plainly_fits.ensures ∙ c.if-not-plainly_fits.false in
    let limits = c.limits-limits.ensures ∙ ap (λ (w : Walk). limits_of w.registers w.instructions) same in
    let fits = ap (λ (l : List ℕ). counted_only x.kind left && below_limits l x) (sym limits) ∙ test in
    let counted : counted_only x.kind left ≡ true = (both (counted_only x.kind left) _ test).0 in (
      run_more _ inv.0 inv.1 (omega arith) (rw (hx, same) at counted),
      inv.1,
      λ j l m.
          ⊎_elim (λ k. inv.2 j l k) (λ k. let e : j ≡ c.loop-r.r = omega arith in rw e (plain_test f c.requires.fact_1 left inv.0 inv.1 hx fits)) (lt_or_le j c.loop-r.r),
    )

pub returns : goal.returns
returns c =
    let e : c.args.n - 1 ≡ c.loop-r.r = omega (arith, c.requires.fact_3) in
    (rw (e, c.requires.fact_2) c.loop-r.invariant.0, λ j l m. c.loop-r.invariant.2 j l (omega (arith, c.requires.fact_3)))
