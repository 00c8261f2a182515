use mathlib.Core.Path.{◌≡◌}
use Prim.Native.Nat.{◌*◌}
use lib.ListN.{length}
use Rattle.rules.specs.Limits.{state_bytes}
use Rattle.rules.specs.State.{written}
use Rattle.pages.specs.Known.{Used}
use Rattle.returns.specs.Left.{closing_by, owned_in}
use Rattle.returns.proofs.close_pages.Given as goal

abbrev pub invariant-loop-i : goal.invariant-loop-i
invariant-loop-i l = (length l.s ≡ state_bytes) × (l.s ≡ written (closing_by (owned_in l.a l.initial.s) (4 * l.i)) l.initial.s) × Used l.known l.s
