-- `positions::argument` meets its contract: by its test.
use Rattle.positions.specs.Positions.{arg_in, arg_out}
use Rattle.terms.specs.Compare.{byte_under}
use mathlib.Core.Path.{sym, ap, ◌∙◌}
use Rattle.positions.proofs.argument.Goals as goal

pub returns-then-j-count : goal.returns-then-j-count
returns-then-j-count c = let a = c.args in c.byte_or.ensures ∙ ap (byte_under a.to.now) c.digit.ensures ∙ sym (arg_in a.to.now a.d a.count a.j c.if-j-count.true)

pub returns-else-j-count : goal.returns-else-j-count
returns-else-j-count c = let a = c.args in sym (arg_out a.to.now a.d a.count a.j c.if-j-count.false)
