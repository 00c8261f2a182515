-- `memo::stands_known` meets its contract: page, owner, place in the page, then the run. Assumes nothing.
use Prim.Native.Nat.{◌%◌}
use native.Mathlib.Omega.{arith}
use Rattle.runs.specs.Runs.{stands_far, stands_other, stands_in}
use Rattle.memo.specs.Memo.{in_none, in_past, in_some}
use Rattle.memo.proofs.stands_known.Goals.{then-a-ge-MEMORY_BYTES-via-then-a-ge-MEMORY_BYTES, then-a-ge-MEMORY_BYTES-via-else-a-ge-MEMORY_BYTES+then-from, then-a-ge-MEMORY_BYTES-via-else-a-ge-MEMORY_BYTES+else-from+then-size-eq0}
use Rattle.memo.proofs.stands_known.Goals as goal

pub returns-then-a-ge-MEMORY_BYTES : goal.returns-then-a-ge-MEMORY_BYTES
returns-then-a-ge-MEMORY_BYTES c =
    let a = c.args in
    elim c.then-a-ge-MEMORY_BYTES.branch [
      | then-a-ge-MEMORY_BYTES-via-then-a-ge-MEMORY_BYTES w ↦ (stands_far a.f.now a.r.0 a.owner a.u a.p.now a.a a.t a.q.now w.if-a-ge-MEMORY_BYTES.true, c.requires.fact_2)
      | then-a-ge-MEMORY_BYTES-via-else-a-ge-MEMORY_BYTES+then-from w ↦
          (stands_other a.f.now a.r.0 a.owner a.u a.p.now a.a a.t a.q.now (λ e. w.if-from.true (omega (arith, w.from.ensures, w.from-else-a-ge-MEMORY_BYTES.ensures))), c.requires.fact_2)
      | then-a-ge-MEMORY_BYTES-via-else-a-ge-MEMORY_BYTES+else-from+then-size-eq0 w ↦
          (stands_in a.f.now a.r.0 a.owner a.u a.p.now a.a a.t a.q.now (omega (arith, w.if-a-ge-MEMORY_BYTES.false)) (omega (arith, w.if-from.false, w.from.ensures, w.from-else-a-ge-MEMORY_BYTES.ensures)) _ (in_none c.requires.fact_1.3 a.p.now (a.a % 256) a.t a.q.now w.if-size-eq0.true), c.requires.fact_2)
    ]

pub returns-then-x-size : goal.returns-then-x-size
returns-then-x-size c =
    let a = c.args in
    (stands_in a.f.now a.r.0 a.owner a.u a.p.now a.a a.t a.q.now (omega (arith, c.if-a-ge-MEMORY_BYTES.false)) (omega (arith, c.if-from.false, c.from.ensures, c.from-else-a-ge-MEMORY_BYTES.ensures)) _ (in_past c.requires.fact_1.3 a.p.now (a.a % 256) a.t a.q.now c.if-size-eq0.false c.if-x-size.true), c.requires.fact_2)

pub returns : goal.returns
returns c =
    let a = c.args in
    (stands_in a.f.now a.r.0 a.owner a.u a.p.now a.a a.t a.q.now (omega (arith, c.if-a-ge-MEMORY_BYTES.false)) (omega (arith, c.if-from.false, c.from.ensures, c.from-else-a-ge-MEMORY_BYTES.ensures)) _ (in_some c.requires.fact_1.3 a.p.now (a.a % 256) a.t a.q.now c.if-size-eq0.false c.if-x-size.false c.run_known.ensures.0), c.run_known.ensures.1)
