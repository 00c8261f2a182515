use mathlib.Core.Path.{◌≡◌}
use Rattle.rules.specs.Heap.{local_list}
use Rattle.rules.specs.State.{frame_map}
use Rattle.regions.specs.Regions.{marked}
use Rattle.regions.proofs.add_locals.Given as goal

abbrev pub invariant-loop-i : goal.invariant-loop-i
invariant-loop-i l = (l.a ≡ marked (local_list (frame_map l.s l.k) l.lo l.i) l.initial.a)
