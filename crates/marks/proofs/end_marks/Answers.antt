-- `marks::end_marks` meets its contract: the marks up to the end of a byte, and the bytes behind them. Assumes nothing.
use native.Mathlib.Omega.{arith}
use Rattle.std.proofs.Common.{refl, rules}
use Rattle.std.proofs.lemmas.Iterator.{YieldsList-from_range}
use Rattle.stack.proofs.Scan.{tells_from}
use Rattle.marks.specs.Ends.{marks_by, mark_inside}
use Rattle.marks.proofs.end_marks.Goals as goal

pub overflow_add-whole : goal.overflow_add-whole
overflow_add-whole c = omega (arith, c.places_in-many.ensures.few)

pub overflow_cast-many : goal.overflow_cast-many
overflow_cast-many c = omega (arith, c.places_in-many.ensures.few)

pub overflow_mul-whole : goal.overflow_mul-whole
overflow_mul-whole c = omega (arith, c.places_in-many.ensures.few)

pub overflow_cast-whole : goal.overflow_cast-whole
overflow_cast-whole c = omega (arith, c.places_in-many.ensures.few)

pub overflow_add-marks : goal.overflow_add-marks
overflow_add-marks c = omega (arith, c.places_in-many.ensures.few, c.requires.1, c.marks_place-marks.ensures)

pub overflow_add-marks-2 : goal.overflow_add-marks-2
overflow_add-marks-2 c = omega (arith, c.requires.1, c.marks_place-marks.ensures)

pub returns : goal.returns
returns c =
    marks_by c.requires.1 (λ i. omega (arith, c.type_inv.s i)) c.places_in-many.ensures (omega arith) (omega (arith, c.places_in-many.ensures.few)) c.marks_place-marks.ensures
    (tells_from (mark_inside c.places_in-many.ensures) (YieldsList-from_range _ _ _ refl refl) c.all-near.ensures.ran (λ x b q k. search rules)) c.zero-far.ensures
