-- `marks::end_mark` meets its contract: the mark that was read. Assumes nothing.
use Rattle.marks.specs.Ends.{mark_few}
use native.Mathlib.Omega.{arith}
use Rattle.marks.specs.Ends.{mark_by}
use Rattle.marks.proofs.end_mark.Goals as goal

pub overflow_mul-result : goal.overflow_mul-result
overflow_mul-result c = omega (arith, mark_few c.args.size c.args.j c.requires.0 c.requires.1)

pub returns : goal.returns
returns c = mark_by c.mark-x.ensures
