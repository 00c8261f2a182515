use Rattle.runs.specs.Runs.{RunTo}
use Rattle.positions.specs.Table.{term_layout}
use Rattle.runs.proofs.short_run.Given as goal

abbrev pub invariant-loop-i : goal.invariant-loop-i
invariant-loop-i l = RunTo l.f (term_layout l.f l.k l.a) l.p l.d (term_layout l.f l.k l.b) l.q l.i
