-- `running_line` meets its contract: the word, the number, the end.
use native.Mathlib.Omega.{arith}
use Rattle.lines.specs.Writing.{puts_length, line_one_puts}
use Rattle.lines.proofs.running_line.Goals as goal

pub shape_of-out : goal.shape_of-out
shape_of-out c = puts_length (line_one_puts c.args.steps c.put_text-i.ensures c.put_number-j.ensures.0)

pub returns : goal.returns
returns c = let e = c.put_text-i.ensures.end in (line_one_puts c.args.steps c.put_text-i.ensures c.put_number-j.ensures.0, omega arith)
