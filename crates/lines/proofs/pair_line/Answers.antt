-- `pair_line` meets its contract: the word, the numbers, the end.
use native.Mathlib.Omega.{arith}
use Rattle.lines.specs.Writing.{puts_length, line_two_puts}
use Rattle.lines.proofs.pair_line.Goals as goal

pub shape_of-out : goal.shape_of-out
shape_of-out c = let a = c.args in puts_length (line_two_puts a.x a.y c.put_text-i.ensures c.put_pair-j.ensures.0)

pub returns : goal.returns
returns c = let a = c.args in let e = c.put_text-i.ensures.end in (line_two_puts a.x a.y c.put_text-i.ensures c.put_pair-j.ensures.0, omega arith)
