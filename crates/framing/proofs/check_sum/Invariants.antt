use mathlib.Core.Path.{◌≡◌}
use Prim.Native.Nat.{◌≤◌, ◌*◌}
use Rattle.rules.specs.File.{check_sum}
use Rattle.framing.proofs.check_sum.Given as goal

abbrev pub invariant-loop-i : goal.invariant-loop-i
invariant-loop-i l = (l.sum ≡ check_sum l.f l.base l.i) × (l.sum ≤ 129540 * l.i)
