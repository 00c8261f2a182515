use mathlib.Core.Path.{◌≡◌}
use Prim.Native.Nat.{◌≤◌, ◌*◌}
use Rattle.walk.specs.Tables.{instructions_below}
use Rattle.walk.proofs.tables.instructions.Given as goal

abbrev pub invariant-loop-g : goal.invariant-loop-g
invariant-loop-g l = (l.sum ≡ instructions_below l.f l.g) × (l.sum ≤ 65536 * l.g)
