use Rattle.rules.specs.Walk.{scan}
use mathlib.Core.Path.{◌≡◌}
use Prim.Native.Nat.{◌≤◌, ◌-◌}
use Rattle.walk.specs.Tables.{entries}
use Rattle.walk.proofs.tables.tables_of.Given as goal

abbrev pub invariant-loop-r : goal.invariant-loop-r
invariant-loop-r l = (l.r ≤ l.n) × (l.w ≡ (scan l.f l.r).walk) × (l.starts ≡ entries (scan l.f l.r).starts)

abbrev pub decreases-loop-r : goal.decreases-loop-r
decreases-loop-r l = l.n - l.r
