use mathlib.Core.Path.{◌≡◌}
use Prim.Native.Nat.{ℕ, ◌≤◌, ◌<◌, ◌-◌}
use mathlib.Core.Bool.{true}
use Rattle.rules.specs.Records.{record_test}
use Rattle.walk.specs.Tables.{starts_of}
use Rattle.rules.specs.Walk.{scan, whole}
use Rattle.records.proofs.first_fault.Given as goal

abbrev pub invariant-loop-r : goal.invariant-loop-r
invariant-loop-r l = (l.r ≤ l.n) × (l.w ≡ (scan l.f l.r).walk) × ((l.starts ≡ starts_of l.f) × (l.end ≡ (whole l.f).walk)) × ((j : ℕ) → j < l.r → record_test l.f j ≡ true)

abbrev pub decreases-loop-r : goal.decreases-loop-r
decreases-loop-r l = l.n - l.r
