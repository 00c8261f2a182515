-- `terms::times` meets its contract: by its one test; the products are of a number below 2^32 and one of at most 257.
use Prim.Native.Nat.{◌<◌, ◌≤◌, ◌*◌}
use Rattle.terms.specs.ExtentLaws.{times_over, times_fits}
use mathlib.Core.Path.{sym, ◌∙◌}
use native.Mathlib.Omega.{arith}
use Rattle.terms.proofs.times.Goals as goal

pub returns-then-size-gt-SIZE_LIMIT : goal.returns-then-size-gt-SIZE_LIMIT
returns-then-size-gt-SIZE_LIMIT c = let a = c.args in let h : 256 < a.n * a.e.size = omega arith in (sym (times_over a.n a.e h), (omega arith, omega arith))

pub returns : goal.returns
returns c = let a = c.args in let h : a.n * a.e.size ≤ 256 = omega arith in let e = times_fits a.n a.e h in (sym (e ∙ cc), (omega arith, c.cap.ensures.1))
