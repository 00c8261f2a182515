-- `accepted_line` meets its contract: the word, the numbers two by two, the end.
use native.Mathlib.Omega.{arith}
use Rattle.lines.specs.Writing.{puts_length, line_four_puts}
use Rattle.lines.proofs.accepted_line.Goals as goal

pub shape_of-out : goal.shape_of-out
shape_of-out c = let a = c.args.counts in puts_length (line_four_puts a.terms a.names a.functions a.instructions c.put_text-h.ensures c.put_pair-i.ensures.0 c.put_pair-j.ensures.0)

pub returns : goal.returns
returns c = let a = c.args.counts in let e = c.put_text-h.ensures.end in (line_four_puts a.terms a.names a.functions a.instructions c.put_text-h.ensures c.put_pair-i.ensures.0 c.put_pair-j.ensures.0, omega arith)
