-- `terms::plus` meets its contract: by its one test.
use Prim.Native.Nat.{◌<◌, ◌≤◌, ◌+◌}
use Rattle.terms.specs.ExtentLaws.{plus_over, plus_fits}
use mathlib.Core.Path.{sym, ◌∙◌}
use native.Mathlib.Omega.{arith}
use Rattle.terms.proofs.plus.Goals as goal

pub returns-then-size-gt-SIZE_LIMIT : goal.returns-then-size-gt-SIZE_LIMIT
returns-then-size-gt-SIZE_LIMIT c = let a = c.args in let h : 256 < a.d.size + a.e.size = omega arith in (sym (plus_over a.d a.e h), (omega arith, omega arith))

pub returns : goal.returns
returns c = let a = c.args in let h : a.d.size + a.e.size ≤ 256 = omega arith in let e = plus_fits a.d a.e h in (sym (e ∙ cc), (omega arith, c.cap.ensures.1))
