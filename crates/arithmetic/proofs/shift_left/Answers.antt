-- `arithmetic::shift_left` meets its contract: a number of 32 bits shifted by less than 32 stays within 64.
use mathlib.Core.Path.{ap, ◌∙◌}
use Prim.Native.Nat.{◌*◌, ◌<◌, ◌≤◌}
use native.Mathlib.Omega.{arith}
use lib.Pow.{shl_exact}
use borrow.Author.Tests.{lt-ltb, le-ltb}
use Rattle.rules.specs.Arithmetic.{value, left_by}
use Rattle.arithmetic.specs.Laws.{width_taken, mask_taken}
use Rattle.arithmetic.specs.Meaning.{width_in}
use borrow.Author.Rules.{rules}
use Rattle.arithmetic.proofs.shift_left.Goals as goal

pub bits_of-requires : goal.bits_of-requires
bits_of-requires c = width_taken c.requires c.width_in.ensures

pub returns-then-from-bits_of : goal.returns-then-from-bits_of
unfolding left_by
returns-then-from-bits_of c = let h : c.args.y < 8 * width_in c.args.v = omega arith in
    let k : c.args.y < 32 = omega arith in
    rw (lt-ltb _ _ h) (ap value (c.cut_by.ensures _ c.requires.width (mask_taken c.requires c.mask_in.ensures) ∙ rw (shl_exact {a = c.from-then-from-bits_of.result} 32 c.args.y 64 (search rules) (omega arith)) (cc)))

pub returns-else-from-bits_of : goal.returns-else-from-bits_of
unfolding left_by
returns-else-from-bits_of c = let h : 8 * width_in c.args.v ≤ c.args.y = omega arith in simp (le-ltb _ _ h)
