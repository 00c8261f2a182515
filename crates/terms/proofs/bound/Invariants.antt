use Prim.Native.Nat.{max}
use Rattle.rules.specs.Decode.{module_of}
use Rattle.terms.specs.Bounds.{bound}
use Rattle.terms.specs.Heads.{tree_at}
use mathlib.Core.Path.{◌≡◌}
use Rattle.terms.proofs.bound.Given as goal

abbrev pub invariant-loop-i : goal.invariant-loop-i
invariant-loop-i l = max l.best (bound (tree_at l.f l.i)) ≡ bound ((module_of l.f).term l.t)

abbrev pub decreases-loop-i : goal.decreases-loop-i
decreases-loop-i l = l.i
