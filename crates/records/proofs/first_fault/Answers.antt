-- `records::first_fault` meets its contract: the loop holds the walk before record r, and every record passed fits; instructions in a row are passed at once. Assumes nothing.
use mathlib.Core.Path.{sym, ap, ◌∙◌}
use mathlib.Core.Logic.{⊎_elim}
use Rattle.words.specs.Choose.{lt_or_le}
use Prim.Native.Nat.{◌≤◌, ◌<◌}
use borrow.Author.Count.{below_none, below_more}
use native.Mathlib.Omega.{arith}
use Rattle.walk.specs.Tables.{tables_walk, tables_starts, records_few, room_at, callee_at}
use Rattle.walk.specs.Scan.{scan_start, step_walk}
use Rattle.walk.specs.declared.tables.Tables.{Tables}
use Rattle.records.specs.Records.{filled, record_test_law, record_fails, ends_short, none_fails}
use Rattle.records.proofs.first_fault.Goals as goal

pub loop-r-init : goal.loop-r-init
loop-r-init c = (
  omega arith,
  c.start-w.ensures ∙ sym (scan_start _),
  (ap (λ (t : Tables). t.starts) c.requires ∙ tables_starts _, ap (λ (t : Tables). t.walk) c.requires ∙ tables_walk _),
  below_none _,
)

pub filler_fault-requires : goal.filler_fault-requires
filler_fault-requires c = record { fact_1 = c.count-n.ensures; fact_2 = filled _ c.loop-r.invariant.1 (sym c.in_filler.ensures ∙ c.if-in_filler.true) c.loop-r.invariant.3; fact_3 = omega arith }

pub run_end-e-requires : goal.run_end-e-requires
run_end-e-requires c = record { fact_1 = c.count-n.ensures; fact_2 = c.loop-r.invariant.1; fact_3 = c.loop-r-test.true }

pub overflow_sub-e : goal.overflow_sub-e
overflow_sub-e c = omega (arith, c.run_end-e.ensures.0.from)

pub overflow_sub-w : goal.overflow_sub-w
overflow_sub-w c = omega (arith, c.run_end-e.ensures.0.many)

pub fits-requires : goal.fits-requires
fits-requires c = record { fact_1 = c.loop-r.invariant.2.0; fact_2 = c.loop-r.invariant.2.1; fact_3 = callee_at c.args.f.now (λ i. omega (arith, c.type_inv.f i)) _ (c.to-w.ensures ∙ c.run_end-e.ensures.0.walk) }

pub returns-then-not-fits : goal.returns-then-not-fits
returns-then-not-fits c =
    let hw = c.to-w.ensures ∙ c.run_end-e.ensures.0.walk in
    let below = c.run_end-e.ensures.0.below in
    record_fails _ c.count-n.ensures hw (λ j l. ⊎_elim (λ k. c.loop-r.invariant.3 j k) (λ k. c.run_end-e.ensures.1 j k l) (lt_or_le j c.loop-r.r)) below
    (record_test_law _ c.count-n.ensures hw c.record_at-x.ensures c.fits.ensures below ∙ c.if-not-fits.true)

pub next-w-requires : goal.next-w-requires
next-w-requires c =
    room_at c.args.f.now (λ i. omega (arith, c.type_inv.f i)) _ (c.to-w.ensures ∙ c.run_end-e.ensures.0.walk)
    (let h = records_few c.args.f.now c.well_formed.0.0 in omega (arith, c.run_end-e.ensures.0.below, c.count-n.ensures))

pub overflow_add-r : goal.overflow_add-r
overflow_add-r c =
    let h : c.run_end-e.result < c.count-n.result = c.run_end-e.ensures.0.below in
    let few = records_few c.args.f.now c.well_formed.0.0 in
    omega (arith, c.count-n.ensures)

pub loop-r-smaller : goal.loop-r-smaller
loop-r-smaller c =
    let h : c.run_end-e.result < c.count-n.result = c.run_end-e.ensures.0.below in
    let l : c.loop-r.r ≤ c.run_end-e.result = c.run_end-e.ensures.0.from in
    omega arith

pub loop-r-preserved : goal.loop-r-preserved
loop-r-preserved c =
    let h : c.run_end-e.result < c.count-n.result = c.run_end-e.ensures.0.below in
    let hw = c.to-w.ensures ∙ c.run_end-e.ensures.0.walk in (
      omega arith,
      step_walk _ _ hw c.record_at-x.ensures c.next-w.ensures,
      c.loop-r.invariant.2,
      below_more _ _ (λ j l. ⊎_elim (λ k. c.loop-r.invariant.3 j k) (λ k. c.run_end-e.ensures.1 j k l) (lt_or_le j c.loop-r.r))
          (record_test_law _ c.count-n.ensures hw c.record_at-x.ensures c.fits.ensures h ∙ c.if-not-fits.false),
    )

pub returns-then-end_fits : goal.returns-then-end_fits
returns-then-end_fits c = none_fails _ c.count-n.ensures c.loop-r.invariant.1 c.loop-r.invariant.3 (omega arith) (sym c.end_fits.ensures ∙ c.if-end_fits.true)

pub returns-else-end_fits : goal.returns-else-end_fits
returns-else-end_fits c = ends_short _ c.count-n.ensures c.loop-r.invariant.1 c.loop-r.invariant.3 (omega arith) (sym c.end_fits.ensures ∙ c.if-end_fits.false)
