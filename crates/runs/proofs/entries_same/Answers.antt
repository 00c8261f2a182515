-- `runs::entries_same` meets its contract: the first i primitives are the same. Assumes nothing.
use Rattle.runs.specs.Entries.{same_more, same_stop, same_end}
use mathlib.Core.Path.{refl}
use Rattle.runs.proofs.entries_same.Goals as goal

pub loop-i-preserved : goal.loop-i-preserved
loop-i-preserved c =
    let a = c.args in
    (same_more a.f.now a.entries.now a.d a.entries2.now a.many _ _ _ c.loop-i.i refl refl refl c.loop-i-test.true c.same_prim.result c.same_prim.ensures c.if-not-same_prim.false c.loop-i.invariant)

pub returns-then-not-same_prim : goal.returns-then-not-same_prim
returns-then-not-same_prim c =
    let a = c.args in
    same_stop a.f.now a.entries.now a.d a.entries2.now a.many _ _ _ c.loop-i.i refl refl refl c.loop-i-test.true c.same_prim.result c.same_prim.ensures c.if-not-same_prim.true

pub returns : goal.returns
returns c =
    let a = c.args in
    same_end a.f.now a.entries.now a.d a.entries2.now a.many c.loop-i.i c.requires.0 c.loop-i-test.false c.loop-i.invariant
