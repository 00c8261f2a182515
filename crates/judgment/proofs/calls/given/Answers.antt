-- `judgment::calls::given` meets its contract: the first j bytes are those of d.
use mathlib.Core.Path.{◌≡◌}
use Prim.Native.Nat.{ℕ}
use Rattle.judgment.specs.Calls.{given_none, given_more}
use Rattle.terms.specs.HeadLaws.{digit_lt}
use lib.ListN.{length-replicate}
use native.Mathlib.Omega.{arith}
use Rattle.judgment.proofs.calls.given.Goals as goal

pub loop-j-init : goal.loop-j-init
loop-j-init c = given_none _ _ (length-replicate {A = ℕ} 256 0)

pub overflow_cast-r : goal.overflow_cast-r
overflow_cast-r c = omega (arith, c.digit.ensures, digit_lt c.args.d c.loop-j.j c.requires.fact_2)

pub bounds-r-j : goal.bounds-r-j
bounds-r-j c = omega (arith, c.loop-j.invariant.long, c.requires.fact_1)

pub loop-j-preserved : goal.loop-j-preserved
loop-j-preserved c = given_more _ _ _ _ (omega (arith, c.requires.fact_1)) c.digit.ensures c.loop-j.invariant

pub returns : goal.returns
returns c = let e : c.args.p ≡ c.loop-j.j = omega arith in rw e c.loop-j.invariant
