-- `frames::enter` meets its contract: the writes of its calls, one after the other.
use mathlib.Core.Path.{◌≡◌}
use Prim.Native.Nat.{suc, ◌+◌}
use native.Mathlib.Omega.{arith}
use Rattle.rules.specs.State.{written}
use Rattle.frames.proofs.enter.Goals as goal

pub returns : goal.returns
unfolding written
returns c = let e : c.args.k + 2 ≡ suc (suc c.args.k) = omega arith in rw (c.make_frame.ensures, e) at c.put_frames.ensures
