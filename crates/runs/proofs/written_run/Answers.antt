-- `runs::written_run` meets its contract: both terms are written out, and then compared. Assumes nothing.
use Rattle.positions.specs.TableLaws.{known_table}
use Rattle.flattening.specs.Laws.{room_fresh, past_none}
use native.Mathlib.Omega.{arith}
use Rattle.runs.proofs.written_run.Goals as goal

pub term_written-requires : goal.term_written-requires
term_written-requires c =
    let a = c.args in
    let q = c.requires in
    (q.1, omega (arith, q.0.sized a.a q.1 (omega (arith, q.6, q.7))), omega (arith, q.0.counts a.a q.1), q.3, known_table a.f.now a.n a.k a.tab.now q.0, room_fresh _, q.0.counted.few, past_none _ _ 32 _ _)

pub term_written-requires-2 : goal.term_written-requires-2
term_written-requires-2 c =
    let a = c.args in
    let q = c.requires in
    (q.2, omega (arith, q.0.sized a.b q.2 (omega (arith, q.5, q.6))), omega (arith, q.0.counts a.b q.2), q.4, known_table a.f.now a.n a.k a.tab.now q.0, room_fresh _, q.0.counted.few, past_none _ _ 32 _ _)
