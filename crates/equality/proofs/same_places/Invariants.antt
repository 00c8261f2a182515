use Prim.Native.Nat.{◌+◌}
use Rattle.rules.specs.Types.{variable, live}
use Rattle.equality.specs.Equal.{places_same}
use mathlib.Core.Path.{◌≡◌}
use Rattle.equality.proofs.same_places.Given as goal

abbrev pub invariant-loop-i : goal.invariant-loop-i
invariant-loop-i l = (places_same variable l.f l.a l.p l.b l.q ≡ places_same variable l.f l.i l.p l.j l.q) × (places_same live l.f l.a l.p l.b l.q ≡ places_same live l.f l.i l.p l.j l.q)

abbrev pub decreases-loop-i : goal.decreases-loop-i
decreases-loop-i l = l.i + l.j
