use mathlib.Core.Path.{◌≡◌}
use mathlib.Core.Logic.{◌⊎◌}
use Prim.Native.Nat.{◌≤◌}
use Rattle.stack.specs.Tells.{Tells}
use Rattle.shape.specs.Zeros.{Zero}
use Rattle.shape.proofs.spare.zero_in.Given as goal

abbrev pub invariant-loop-i : goal.invariant-loop-i
invariant-loop-i l = ((l.i ≤ l.to) ⊎ (l.i ≡ l.from)) × Tells l.all (Zero l.s l.from l.i)
