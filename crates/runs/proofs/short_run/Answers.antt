-- `runs::short_run` meets its contract: the first i primitives are the same.
use Rattle.layout.specs.Prims.{nth}
use Rattle.positions.specs.Positions.{Found}
use Rattle.runs.specs.Runs.{run_more, run_stop, run_end}
use Rattle.positions.specs.Table.{term_layout}
use mathlib.Core.Path.{sym, subst}
use native.Mathlib.Nat.{add-zero}
use native.Mathlib.Omega.{arith}
use Rattle.runs.proofs.short_run.Goals as goal

pub returns-then-not-same_prim : goal.returns-then-not-same_prim
returns-then-not-same_prim c =
    let a = c.args in
    let found = subst (λ z. Found a.f.now c.place_prim-first.result a.p 0 (nth (term_layout a.f.now a.k a.a) z)) (sym (add-zero a.d)) c.place_prim-first.ensures.0 in
    run_stop a.f.now (term_layout a.f.now a.k a.a) a.p a.d (term_layout a.f.now a.k a.b) a.q c.place_prim-first.result c.place_prim-first.result c.place_prim.result 0 c.place_prim-first.ensures.0 found c.place_prim.ensures.0 c.same_prim.result c.same_prim.ensures (omega (arith, c.requires.5, c.requires.6)) c.if-not-same_prim.true

pub loop-i-init : goal.loop-i-init
loop-i-init c =
    let a = c.args in
    let found = subst (λ z. Found a.f.now c.place_prim-first.result a.p 0 (nth (term_layout a.f.now a.k a.a) z)) (sym (add-zero a.d)) c.place_prim-first.ensures.0 in
    (run_more a.f.now (term_layout a.f.now a.k a.a) a.p a.d (term_layout a.f.now a.k a.b) a.q c.place_prim-first.result c.place_prim-first.result c.place_prim.result 0 c.place_prim-first.ensures.0 found c.place_prim.ensures.0 c.same_prim.result c.same_prim.ensures c.if-not-same_prim.false (λ j h l. absurd (omega arith)))

pub loop-i-preserved : goal.loop-i-preserved
loop-i-preserved c =
    let a = c.args in
    (run_more a.f.now (term_layout a.f.now a.k a.a) a.p a.d (term_layout a.f.now a.k a.b) a.q c.place_prim-first.result c.place_prim-x.result c.place_prim-y.result c.loop-i.i c.place_prim-first.ensures.0 c.place_prim-x.ensures.0 c.place_prim-y.ensures.0 c.same_prim-in-loop-i.result c.same_prim-in-loop-i.ensures c.if-not-same_prim-2.false c.loop-i.invariant)

pub returns-then-not-same_prim-2 : goal.returns-then-not-same_prim-2
returns-then-not-same_prim-2 c =
    let a = c.args in
    run_stop a.f.now (term_layout a.f.now a.k a.a) a.p a.d (term_layout a.f.now a.k a.b) a.q c.place_prim-first.result c.place_prim-x.result c.place_prim-y.result c.loop-i.i c.place_prim-first.ensures.0 c.place_prim-x.ensures.0 c.place_prim-y.ensures.0 c.same_prim-in-loop-i.result c.same_prim-in-loop-i.ensures (omega (arith, c.requires.5, c.loop-i-test.true)) c.if-not-same_prim-2.true

pub returns : goal.returns
returns c =
    let a = c.args in
    run_end a.f.now (term_layout a.f.now a.k a.a) a.p a.d (term_layout a.f.now a.k a.b) a.q (omega (arith, c.requires.5, c.requires.6)) (omega (arith, c.requires.5, c.requires.7)) c.loop-i.i (omega (arith, c.requires.5, c.loop-i-test.false)) c.loop-i.invariant
