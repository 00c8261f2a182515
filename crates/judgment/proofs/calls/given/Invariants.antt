use Rattle.judgment.specs.Calls.{Given}
use Rattle.judgment.proofs.calls.given.Given as goal

abbrev pub invariant-loop-j : goal.invariant-loop-j
invariant-loop-j l = Given l.d l.j l.r
