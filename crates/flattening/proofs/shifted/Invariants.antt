use Rattle.flattening.specs.Written.{Shifted}
use Rattle.flattening.proofs.shifted.Given as goal

abbrev pub invariant-loop-i : goal.invariant-loop-i
invariant-loop-i l = Shifted l.initial.entries l.entries l.from l.i l.at l.by
