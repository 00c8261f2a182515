use mathlib.Core.Path.{◌≡◌}
use mathlib.Core.Bool.{true}
use Prim.Native.Nat.{ℕ, ◌<◌, ◌≤◌}
use Rattle.rules.specs.Walk.{scan}
use Rattle.rules.specs.Records.{record_test}
use Rattle.rules.specs.declared.Phase.TheVariants.{Code}
use Rattle.walk.specs.Run.{Run}
use Rattle.records.proofs.run_end.Given as goal

abbrev pub invariant-loop-r : goal.invariant-loop-r
invariant-loop-r l = Run l.f l.n (scan l.f l.from).walk l.from l.r × ((scan l.f l.from).walk.phase ≡ Code) × ((j : ℕ) → l.from ≤ j → j < l.r → record_test l.f j ≡ true)
