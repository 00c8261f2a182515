use mathlib.Core.Path.{◌≡◌}
use Rattle.typing.specs.Walk.{skip}
use Rattle.chain.proofs.skip.Given as goal

abbrev pub invariant-loop-i : goal.invariant-loop-i
invariant-loop-i l = l.p ≡ skip l.f l.r l._i
