use Prim.Native.Nat.{◌+◌}
use Rattle.positions.specs.Table.{Filled}
use Rattle.positions.specs.TableLaws.{Sizes}
use lib.ListN.{length}
use mathlib.Core.Path.{◌≡◌}
use Rattle.positions.proofs.extents.Given as goal

abbrev pub invariant-loop-t : goal.invariant-loop-t
invariant-loop-t l = (length l.tab ≡ 128) × (Filled l.f l.k l.tab (l.t + 1)) × (Sizes l.f l.k l.t)
