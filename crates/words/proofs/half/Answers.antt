-- `words::half` meets its contract: past the end a byte is 0. Assumes nothing.
use mathlib.Core.Path.{sym}
use Prim.Native.Nat.{◌+◌}
use native.Mathlib.Omega.{arith}
use Rattle.words.specs.ByteLaws.{number_two, number_past, byte_past}
use Rattle.words.proofs.half.Goals as goal

pub returns-then-n-i-lt2 : goal.returns-then-n-i-lt2
returns-then-n-i-lt2 c = rw number_two (omega (arith, byte_past c.args.s.now (c.args.i + 1) (omega arith)))

pub returns-else-i-n : goal.returns-else-i-n
returns-else-i-n c = (sym (number_past 2 _ _ c.if-i-n.false), omega arith)
