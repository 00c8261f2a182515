-- `memo::run_found` meets its contract: an object of that very type, or the run in it. Assumes nothing.
use Rattle.memo.specs.Memo.{run_whole}
use Rattle.memo.proofs.run_found.Goals as goal

pub returns-then-same_places : goal.returns-then-same_places
returns-then-same_places c =
    let a = c.args in
    let q = c.requires in
    run_whole a.o a.t a.p.now a.q.now q.0.counted.terms q.3 q.4 q.5 c.if-o-eq0.true c.if-u-ne-UNTYPED.true c.place_of.ensures.0 c.place_of-then-u-ne-UNTYPED.ensures.0 c.same_places.ensures c.if-same_places.true
