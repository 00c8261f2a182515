use mathlib.Core.Path.{◌≡◌}
use Rattle.objects.specs.Homes.{frame_of}
use Rattle.objects.proofs.home_of.Given as goal

abbrev pub invariant-loop-k : goal.invariant-loop-k
invariant-loop-k l = frame_of l.state.file.now l.state.bytes.now l.n l.r ≡ frame_of l.state.file.now l.state.bytes.now l.k l.r
