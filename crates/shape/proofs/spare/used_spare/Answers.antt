-- `shape::spare::used_spare` meets its contract: its three parts. Assumes nothing.
use mathlib.Core.Path.{ap₂}
use Prim.Native.Nat.{◌+◌}
use Rattle.shape.specs.Spare.{used_by}
use Rattle.shape.proofs.spare.used_spare.Goals as goal

pub returns : goal.returns
returns c = used_by c.requires c.head-h.ensures c.from-c.ensures (ap₂ ◌+◌ c.from.ensures c.from-2.ensures) c.frame_place-at.ensures c.register_place.ensures c.map_place.ensures c.map_place-2.ensures c.function_place.ensures c.zero-registers.ensures c.zero-map.ensures c.zero-last.ensures
