use mathlib.Core.Path.{◌≡◌}
use lib.ListN.{length}
use Rattle.rules.specs.Limits.{state_bytes}
use Rattle.rules.specs.State.{frame_map}
use Rattle.frames.specs.Packed.{shifted, packed}
use Rattle.state.specs.Filling.{put_regions}
use Rattle.frames.proofs.put_parameters.Given as goal

abbrev pub invariant-loop-i : goal.invariant-loop-i
invariant-loop-i l = (length l.s ≡ state_bytes) × (l.m ≡ shifted l.rs l.i) × (l.s ≡ put_regions l.t 0 (λ j. frame_map l.initial.s l.k (packed l.rs j)) l.i l.initial.s)
