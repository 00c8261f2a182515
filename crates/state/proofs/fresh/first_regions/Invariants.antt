use mathlib.Core.Path.{◌≡◌}
use lib.ListN.{length}
use Rattle.rules.specs.Limits.{state_bytes}
use Rattle.state.specs.Filling.{put_regions}
use Rattle.state.specs.Fresh.{itself}
use Rattle.state.proofs.fresh.first_regions.Given as goal

abbrev pub invariant-loop-i : goal.invariant-loop-i
invariant-loop-i l = (length l.s ≡ state_bytes) × (l.s ≡ put_regions 0 0 itself l.i l.initial.s)
