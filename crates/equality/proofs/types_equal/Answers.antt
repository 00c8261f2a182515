-- `equality::types_equal` meets its contract: an untyped region's type is equal to no other.
use Rattle.equality.specs.Equal.{untyped_same, typed_same}
use mathlib.Core.Path.{◌∙◌}
use Rattle.equality.proofs.types_equal.Goals as goal

pub returns-then-a-b : goal.returns-then-a-b
returns-then-a-b c = let a = c.args in untyped_same a.f.now a.a a.b a.q.now c.if-a-b.true

pub returns : goal.returns
returns c = let a = c.args in c.equal_under.ensures ∙ typed_same a.f.now a.a a.b a.q.now c.if-a-b.false
