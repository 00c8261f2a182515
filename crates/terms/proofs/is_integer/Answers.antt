-- `terms::is_integer` meets its contract: by the kind and the width in the term's record.
use Rattle.terms.specs.Readers.{integer_in, integer_out}
use Prim.Native.Nat.{ℕ}
use lib.Dec.{eqb}
use mathlib.Core.Bool.{◌&&◌}
use mathlib.Core.Path.{ap₂, ◌∙◌}
use native.Mathlib.Omega.{arith}
use Rattle.terms.proofs.is_integer.Goals as goal

pub returns-then-t-n : goal.returns-then-t-n
returns-then-t-n c =
    let a = c.args in
    ap₂ (λ (x y : ℕ). eqb x 1 && eqb y a.width) c.byte_at-kind.ensures (c.from.ensures ∙ c.byte_at-a.ensures)
    ∙ integer_in a.f.now (λ i. omega (arith, c.type_inv.f i)) a.n c.requires a.t c.if-t-n.true a.width

pub returns-else-t-n : goal.returns-else-t-n
returns-else-t-n c =
    let a = c.args in
    integer_out a.f.now (λ i. omega (arith, c.type_inv.f i)) a.n c.requires a.t c.if-t-n.false a.width
