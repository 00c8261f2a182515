-- `walk::tables::tables_of` meets its contract: the loop holds the walk and the starts before record r, and passes instructions in a row at once. Assumes nothing.
use lib.Dec.{ltb}
use borrow.Author.Tests.{ltb-true}
use Rattle.walk.specs.Scan.{callees, scan_start, step_walk}
use Rattle.words.specs.Choose.{both}
use mathlib.Core.Path.{sym, ap, ◌∙◌}
use native.Mathlib.Omega.{arith}
use Prim.Native.Nat.{◌≤◌, ◌<◌}
use Rattle.walk.specs.Tables.{entries, starts_none, step_start, step_same, tables_at, tables_filler, records_few, room_at}
use Rattle.walk.proofs.tables.tables_of.Goals as goal
use Rattle.walk.proofs.tables.tables_of.Goals.{else-g-v, then-g-v}

pub loop-r-init : goal.loop-r-init
loop-r-init c = (omega arith, c.start-w.ensures ∙ sym (scan_start _), starts_none _)

pub returns-then-in_filler : goal.returns-then-in_filler
returns-then-in_filler c = tables_filler _ c.count-n.ensures (omega arith) c.loop-r.invariant.1 c.loop-r.invariant.2 (sym c.in_filler.ensures ∙ c.if-in_filler.true)

pub run_end-e-requires : goal.run_end-e-requires
run_end-e-requires c = record { fact_1 = c.loop-r.invariant.1; fact_2 = c.loop-r-test.true }

pub overflow_sub-e : goal.overflow_sub-e
overflow_sub-e c = omega (arith, c.run_end-e.ensures.from)

pub overflow_sub-w : goal.overflow_sub-w
overflow_sub-w c = omega (arith, c.run_end-e.ensures.many)

pub next-v-requires : goal.next-v-requires
next-v-requires c =
    room_at c.args.f.now (λ i. omega (arith, c.type_inv.f i)) _ (c.to-w.ensures ∙ c.run_end-e.ensures.walk)
    (let h = records_few c.args.f.now c.well_formed.0.0 in omega (arith, c.run_end-e.ensures.below, c.count-n.ensures))

pub offset_bounds-starts-g : goal.offset_bounds-starts-g
offset_bounds-starts-g c = let h : c.to-w.result.functions < callees = ltb-true _ _ (both (ltb c.to-w.result.functions callees) _ c.if-g-v.true).0 in omega arith

pub bounds-starts-g : goal.bounds-starts-g
bounds-starts-g c = ltb-true _ _ (both (ltb c.to-w.result.functions callees) _ c.if-g-v.true).0

pub overflow_add-r : goal.overflow_add-r
overflow_add-r c =
    let h : c.run_end-e.result < c.count-n.result = c.run_end-e.ensures.below in
    let few = records_few c.args.f.now c.well_formed.0.0 in
    omega (arith, c.count-n.ensures)

pub loop-r-smaller : goal.loop-r-smaller
loop-r-smaller c =
    let h : c.run_end-e.result < c.count-n.result = c.run_end-e.ensures.below in
    let l : c.loop-r.r ≤ c.run_end-e.result = c.run_end-e.ensures.from in
    omega arith

pub loop-r-preserved : goal.loop-r-preserved
loop-r-preserved c =
    let h : c.run_end-e.result < c.count-n.result = c.run_end-e.ensures.below in
    let hw = c.to-w.ensures ∙ c.run_end-e.ensures.walk in
    let hh = c.loop-r.invariant.2 ∙ ap entries (sym c.run_end-e.ensures.starts) in
    let hv = step_walk _ _ hw c.record_at.ensures c.next-v.ensures in (
      omega arith,
      hv,
      elim c.if-g-v.branch [ then-g-v s ↦ s.starts-is ∙ step_start _ (λ i. omega (arith, c.type_inv.f i)) _ hw hv hh s.if-g-v.true | else-g-v s ↦ s.starts-is ∙ step_same _ (λ i. omega (arith, c.type_inv.f i)) _ hw hv hh s.if-g-v.false ],
    )

pub returns : goal.returns
returns c = tables_at _ c.count-n.ensures (omega arith) c.loop-r.invariant.1 c.loop-r.invariant.2
