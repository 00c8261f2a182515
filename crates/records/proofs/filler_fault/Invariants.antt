use Rattle.records.specs.Records.{Filled}
use Rattle.records.proofs.filler_fault.Given as goal

abbrev pub invariant-loop-r : goal.invariant-loop-r
invariant-loop-r l = Filled l.f l.r
