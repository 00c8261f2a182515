use mathlib.Core.Path.{◌≡◌}
use Prim.Native.Nat.{◌*◌, ◌≤◌}
use lib.ListN.{length}
use Rattle.rules.specs.State.{frame_function, frame_map}
use Rattle.regions.specs.Regions.{marked, live_by}
use Rattle.regions.proofs.add_frames.Given as goal

abbrev pub invariant-loop-k : goal.invariant-loop-k
invariant-loop-k l = (l.a ≡ marked (live_by l.params l.locals (frame_function l.s) (frame_map l.s) l.k) l.initial.a) × (l.c ≡ length (live_by l.params l.locals (frame_function l.s) (frame_map l.s) l.k)) × (l.c ≤ 7 * l.k)
