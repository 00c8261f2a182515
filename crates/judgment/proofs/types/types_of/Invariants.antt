use Rattle.judgment.specs.Types.{Described}
use Rattle.judgment.proofs.types.types_of.Given as goal

abbrev pub invariant-loop-a : goal.invariant-loop-a
invariant-loop-a l = Described l.f l.h l.types
