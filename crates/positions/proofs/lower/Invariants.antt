use Prim.Native.Nat.{◌-◌}
use Rattle.positions.specs.Distances.{Lower}
use Rattle.positions.specs.Table.{term_layout}
use Rattle.positions.proofs.lower.Given as goal

abbrev pub invariant-loop-low : goal.invariant-loop-low
invariant-loop-low l = Lower (term_layout l.f l.k l.p) l.o l.low l.high

abbrev pub decreases-loop-low : goal.decreases-loop-low
decreases-loop-low l = l.high - l.low
