use mathlib.Core.Path.{◌≡◌}
use lib.ListN.{length}
use Rattle.rules.specs.Limits.{state_bytes}
use Rattle.rules.specs.State.{frame_register}
use Rattle.frames.specs.Packed.{shifted, packed}
use Rattle.state.specs.Filling.{put_registers}
use Rattle.frames.proofs.put_arguments.Given as goal

abbrev pub invariant-loop-i : goal.invariant-loop-i
invariant-loop-i l = (length l.s ≡ state_bytes) × (l.m ≡ shifted l.xs l.i) × (l.s ≡ put_registers l.t (λ j. frame_register l.initial.s l.k (packed l.xs j)) l.i l.initial.s)
