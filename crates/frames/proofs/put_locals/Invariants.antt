use mathlib.Core.Path.{◌≡◌}
use lib.ListN.{length}
use Rattle.rules.specs.Limits.{state_bytes}
use Rattle.regions.specs.Regions.{filled, number_in}
use Rattle.state.specs.Filling.{put_regions}
use Rattle.frames.proofs.put_locals.Given as goal

abbrev pub invariant-loop-i : goal.invariant-loop-i
invariant-loop-i l = (length l.s ≡ state_bytes) × (l.a ≡ filled l.initial.a l.n l.i) × (l.s ≡ put_regions l.t l.lo (number_in l.initial.a l.n) l.i l.initial.s)
