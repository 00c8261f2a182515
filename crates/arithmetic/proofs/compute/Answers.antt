-- `arithmetic::compute` meets its contract: by the operation with that number, or because there is none.
use Rattle.std.proofs.Common.{ap, ◌∙◌}
use Prim.Native.Nat.{ℕ}
use Rattle.rules.specs.Arithmetic.{operation_of, operated}
use Rattle.arithmetic.specs.Meaning.{width_in}
use Rattle.arithmetic.specs.Laws.{operation_none}
use Rattle.arithmetic.proofs.compute.Goals as goal

pub returns-in-Some : goal.returns-in-Some
returns-in-Some c = c.perform.ensures ∙ ap (λ (o : ℕ). operated (operation_of o) (width_in c.args.v) c.args.x c.args.y) c.in-Some.ensures

pub returns-in-None : goal.returns-in-None
unfolding operated
returns-in-None c = rw (operation_none c.args.op c.in-None.ensures)
