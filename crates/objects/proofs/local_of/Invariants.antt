use mathlib.Core.Path.{◌≡◌}
use Rattle.rules.specs.State.{frame_map}
use Rattle.objects.specs.Homes.{last_of}
use Rattle.objects.proofs.local_of.Given as goal

abbrev pub invariant-loop-j : goal.invariant-loop-j
invariant-loop-j l = last_of (frame_map l.state.bytes.now l.k) l.a l.n l.r ≡ last_of (frame_map l.state.bytes.now l.k) l.a l.j l.r
