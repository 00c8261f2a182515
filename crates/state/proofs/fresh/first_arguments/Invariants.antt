use mathlib.Core.Path.{◌≡◌}
use lib.ListN.{length}
use Rattle.rules.specs.Limits.{state_bytes}
use Rattle.state.specs.Filling.{put_registers}
use Rattle.state.specs.Fresh.{arguments_of}
use Rattle.state.proofs.fresh.first_arguments.Given as goal

abbrev pub invariant-loop-i : goal.invariant-loop-i
invariant-loop-i l = (length l.s ≡ state_bytes) × (l.s ≡ put_registers 0 (arguments_of l.arguments) l.i l.initial.s)
