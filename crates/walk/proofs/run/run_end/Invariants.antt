use mathlib.Core.Path.{◌≡◌}
use Prim.Native.Nat.{◌-◌}
use Rattle.rules.specs.Walk.{scan}
use Rattle.rules.specs.declared.Phase.TheVariants.{Code}
use Rattle.walk.specs.Run.{Run}
use Rattle.walk.proofs.run.run_end.Given as goal

abbrev pub invariant-loop-r : goal.invariant-loop-r
invariant-loop-r l = Run l.f l.n (scan l.f l.from).walk l.from l.r × (l.left ≡ (scan l.f l.from).walk.left - (l.r - l.from)) × ((scan l.f l.from).walk.phase ≡ Code)
