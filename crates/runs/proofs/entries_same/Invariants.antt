use Rattle.runs.specs.Entries.{SameTo}
use Rattle.runs.proofs.entries_same.Given as goal

abbrev pub invariant-loop-i : goal.invariant-loop-i
invariant-loop-i l = SameTo l.f l.entries l.d l.entries2 l.many l.i
