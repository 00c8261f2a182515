-- `judgment::types::term_at` meets its contract: a place is one more than a number.
use mathlib.Core.Path.{◌≡◌, ◌∙◌}
use Prim.Native.Nat.{suc, ◌-◌, ◌<◌, ◌≤◌}
use native.Mathlib.Omega.{arith}
use Rattle.terms.specs.HeadLaws.{place_in_law, place_out}
use Rattle.judgment.proofs.types.term_at.Goals as goal

pub returns-then-p-gt0 : goal.returns-then-p-gt0
returns-then-p-gt0 c = let a = c.args in let l : 0 < a.p = c.if-p-gt0.true in let m : a.p ≤ a.n = c.requires in let s : suc (a.p - 1) ≡ a.p = omega arith in (place_in_law a.n (a.p - 1) (omega arith) ∙ s, omega arith)

pub returns-else-p-gt0 : goal.returns-else-p-gt0
returns-else-p-gt0 c = let a = c.args in let m : a.p ≤ a.n = c.requires in let s : 0 ≡ a.p = omega (arith, c.if-p-gt0.false) in (place_out a.n a.n (omega arith) ∙ s, omega arith)
