-- `host::object::inspect` meets its contract: the part that the reader gives, which lies in the state.
use mathlib.Core.Path.{refl}
use native.Mathlib.Omega.{arith}
use Rattle.std.specs.Prelude.{Some, None}
use Rattle.host.specs.Reading.{part_fits, part_lies}
use Rattle.host.proofs.object.inspect.Goals as goal

pub overflow_add-result : goal.overflow_add-result
overflow_add-result c = omega (arith, part_fits _ _ _ c.in-Some.ensures.answer)

pub slice_bounds-result-end : goal.slice_bounds-result-end
slice_bounds-result-end c = omega (arith, part_fits _ _ _ c.in-Some.ensures.answer)

pub returns-in-Some : goal.returns-in-Some
returns-in-Some c = part_lies _ _ (Some c.in-Some.part) _ _ c.in-Some.ensures.answer refl refl refl refl

pub returns-in-None : goal.returns-in-None
returns-in-None c = part_lies _ _ None 0 0 c.in-None.ensures.answer refl refl refl refl
