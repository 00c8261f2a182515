-- `records::filler_fault` meets its contract: the walk stays in the filler, and every record passed is zero. Assumes nothing.
use mathlib.Core.Path.{refl, ◌∙◌}
use native.Mathlib.Omega.{arith}
use Rattle.records.specs.Records.{filler_test, filled_more, record_fails, none_fails}
use Rattle.records.proofs.filler_fault.Goals as goal

pub loop-r-init : goal.loop-r-init
loop-r-init c = c.requires.fact_2

pub returns-then-not-is_filler : goal.returns-then-not-is_filler
returns-then-not-is_filler c =
    let l = c.loop-r-test.true in
    record_fails _ c.requires.fact_1 refl c.loop-r.invariant.before l
    (filler_test _ c.requires.fact_1 c.loop-r.invariant l c.record_at-x.ensures c.is_filler.ensures ∙ c.if-not-is_filler.true)

pub loop-r-preserved : goal.loop-r-preserved
loop-r-preserved c =
    let l = c.loop-r-test.true in
    filled_more _ c.requires.fact_1 c.loop-r.invariant l
    (filler_test _ c.requires.fact_1 c.loop-r.invariant l c.record_at-x.ensures c.is_filler.ensures ∙ c.if-not-is_filler.false)

pub returns : goal.returns
returns c = none_fails _ c.requires.fact_1 refl c.loop-r.invariant.before (omega arith) (rw c.loop-r.invariant.phase)
