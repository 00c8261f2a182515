-- `arithmetic::nearest` meets its contract: the divisor has a magnitude above zero, and the quotient is at most 256 to the 4.
use mathlib.Core.Path.{sym, ap, ◌∙◌}
use Prim.Native.Nat.{◌<◌, ◌≤◌}
use native.Mathlib.Omega.{arith}
use borrow.Author.Tests.{le-ltb}
use Rattle.rules.specs.Arithmetic.{value, nearest_by}
use Rattle.arithmetic.specs.Laws.{nearest_le, nearest_means, same_side, other_side, magnitude_pos}
use borrow.Author.Rules.{rules}
use Rattle.arithmetic.proofs.nearest.Goals as goal

pub returns-then-y-eq0 : goal.returns-then-y-eq0
unfolding nearest_by
returns-then-y-eq0 c = let h : c.args.y ≤ 0 = omega arith in simp (le-ltb 0 _ h)

pub dividend-requires : goal.dividend-requires
dividend-requires c = (c.magnitude_of-p.ensures.1, c.magnitude_of-q.ensures.1, rw c.magnitude_of-q.ensures.0 (magnitude_pos _ c.if-y-eq0.false (search rules)))

pub nonzero_div-n : goal.nonzero_div-n
nonzero_div-n c = let h : 0 < c.magnitude_of-q.result = rw c.magnitude_of-q.ensures.0 (magnitude_pos _ c.if-y-eq0.false (search rules)) in omega arith

pub negated-requires : goal.negated-requires
negated-requires c = rw c.dividend.ensures (nearest_le c.magnitude_of-p.result c.magnitude_of-q.result (omega arith) (rw c.magnitude_of-q.ensures.0 (magnitude_pos _ c.if-y-eq0.false (search rules))))

pub returns-then-x-y : goal.returns-then-x-y
returns-then-x-y c = nearest_means _ _ c.if-y-eq0.false c.magnitude_of-p.ensures.0 c.magnitude_of-q.ensures.0 c.dividend.ensures (c.positive.ensures ∙ sym (same_side _ _ _ c.if-x-y.true))

pub returns-else-x-y : goal.returns-else-x-y
returns-else-x-y c = nearest_means _ _ c.if-y-eq0.false c.magnitude_of-p.ensures.0 c.magnitude_of-q.ensures.0 c.dividend.ensures (ap value c.negated.ensures ∙ sym (other_side _ _ _ c.if-x-y.false))
