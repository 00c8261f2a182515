-- `judgment::arithmetic::fits` meets its contract: each width's bound computes; from 4 bytes on every d fits.
use Prim.Native.Nat.{◌≤◌}
use mathlib.Core.Path.{sym}
use native.Mathlib.Nat.{lt_of_lt_of_le, pow-le-pow_right}
use borrow.Author.Tests.{lt-ltb}
use native.Mathlib.Omega.{arith}
use Rattle.judgment.proofs.arithmetic.fits.Goals as goal

pub returns-in-0 : goal.returns-in-0
returns-in-0 c = rw c.in-0.is

pub returns-in-1 : goal.returns-in-1
returns-in-1 c = rw c.in-1.is

pub returns-in-2 : goal.returns-in-2
returns-in-2 c = rw c.in-2.is

pub returns-in-3 : goal.returns-in-3
returns-in-3 c = rw c.in-3.is

pub returns-in_default : goal.returns-in_default
returns-in_default c = let h : 4 ≤ c.args.w = omega arith in sym (lt-ltb _ _ (lt_of_lt_of_le c.ranges.d.fits (pow-le-pow_right {n = 256} (omega arith) {i = 4} {j = c.args.w} h)))
