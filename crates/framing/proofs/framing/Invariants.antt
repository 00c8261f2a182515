use Rattle.framing.specs.Outcome.{Right}
use Rattle.framing.proofs.framing.Given as goal

abbrev pub invariant-loop-i : goal.invariant-loop-i
invariant-loop-i l = Right l.f l.i
