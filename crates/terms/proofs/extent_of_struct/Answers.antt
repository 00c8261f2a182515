-- `terms::extent_of_struct` meets its contract: a struct that is there, or none.
use Rattle.terms.specs.ExtentLaws.{extent_struct, extent_no_struct}
use mathlib.Core.Path.{◌∙◌}
use native.Mathlib.Omega.{arith}
use Rattle.terms.proofs.extent_of_struct.Goals as goal

pub returns-then-number-k : goal.returns-then-number-k
returns-then-number-k c = let a = c.args in (c.struct_extent.ensures.0 ∙ extent_struct a.f.now a.n a.k c.requires a.number c.if-number-k.true, c.struct_extent.ensures.1)

pub returns-else-number-k : goal.returns-else-number-k
returns-else-number-k c = let a = c.args in (extent_no_struct a.f.now a.n a.k c.requires a.number c.if-number-k.false, (omega arith, omega arith))
