-- `put_number` meets its contract: a space, then the digits, of which there are at most twenty.
use native.Mathlib.Omega.{arith}
use lib.ListN.{length-set}
use Rattle.lines.specs.Writing.{puts_length, decimal_short, number_puts}
use Rattle.lines.proofs.put_number.Goals as goal

pub put_digits-requires : goal.put_digits-requires
put_digits-requires c = let d = decimal_short c.args.n (omega arith) in let l = length-set c.args.out.now c.args.at 32 in let r = c.requires in omega arith

pub shape_of-out : goal.shape_of-out
shape_of-out c = puts_length (number_puts c.args.out.now c.args.n c.put_digits.ensures)

pub returns : goal.returns
returns c = let d = decimal_short c.args.n (omega arith) in let e = c.put_digits.ensures.end in (number_puts c.args.out.now c.args.n c.put_digits.ensures, omega arith)
