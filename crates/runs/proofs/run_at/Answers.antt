-- `runs::run_at` meets its contract: the run at the position of that byte; none in an untyped region.
use Rattle.positions.specs.Positions.{keeps_held}
use Rattle.runs.specs.Runs.{run_at_is, run_at_none}
use mathlib.Core.Path.{refl}
use Rattle.runs.proofs.run_at.Goals as goal

pub returns-then-u-eq-UNTYPED : goal.returns-then-u-eq-UNTYPED
returns-then-u-eq-UNTYPED c = let a = c.args in run_at_none a.f.now a.u c.if-u-eq-UNTYPED.true a.p.now a.o a.t a.q.now

pub returns : goal.returns
returns c = let a = c.args in
    run_at_is a.f.now a.u c.if-u-eq-UNTYPED.false a.p.now (keeps_held a.p.now a.p.now c.requires.1 (λ v. refl)) a.o a.t a.q.now c.position_at-d.result c.position_at-d.ensures c.run_from.result c.run_from.ensures
