-- `objects::object_in` meets its contract: by whether an object lies there. Assumes nothing.
use native.Mathlib.Omega.{arith}
use mathlib.Core.Path.{refl}
use native.Mathlib.Nat.{div-add-mod'}
use Rattle.objects.specs.Homes.{part_none, part_some, part_past}
use Rattle.objects.proofs.object_in.Goals as goal

pub returns-then-size-eq0 : goal.returns-then-size-eq0
returns-then-size-eq0 c = part_none _ _ _ c.if-size-eq0.true

pub overflow_mul-y : goal.overflow_mul-y
overflow_mul-y c = omega (arith, div-add-mod' c.args.x c.args.size)

pub overflow_add-y : goal.overflow_add-y
overflow_add-y c = omega (arith, div-add-mod' c.args.x c.args.size)

pub returns-then-y-size : goal.returns-then-y-size
returns-then-y-size c = part_past _ _ _ c.if-size-eq0.false refl c.if-y-size.true

pub returns : goal.returns
returns c = part_some _ _ _ c.if-size-eq0.false refl c.if-y-size.false c.page_place-o.ensures
