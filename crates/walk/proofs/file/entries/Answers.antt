-- `walk::file::entries` meets its contract: entry by entry. Assumes nothing.
use mathlib.Core.Path.{◌≡◌}
use Prim.Native.Nat.{◌/◌, ◌%◌}
use native.Mathlib.Omega.{arith}
use Rattle.words.specs.Bytes.{list_from}
use Rattle.walk.proofs.file.entries.Goals as goal

pub returns : goal.returns
unfolding list_from
returns c = let h : c.args.x.d / 16777216 % 256 ≡ c.args.x.d / 16777216 = omega arith in rw c.to_le_bytes.ensures (simp h)
