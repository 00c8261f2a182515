use mathlib.Core.Path.{◌≡◌}
use lib.ListN.{length}
use Rattle.rules.specs.Limits.{state_bytes}
use Rattle.pages.specs.Known.{Used}
use Rattle.returns.specs.Left.{closed_from}
use Rattle.returns.proofs.close_four.Given as goal

abbrev pub invariant-loop-i : goal.invariant-loop-i
invariant-loop-i l = (length l.s ≡ state_bytes) × (l.s ≡ closed_from l.a l.p l.i l.initial.s) × Used l.known l.s
