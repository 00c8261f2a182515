-- `positions::own` meets its contract: by its test.
use Rattle.positions.specs.Positions.{own_in, own_out}
use mathlib.Core.Path.{sym, ◌∙◌}
use Rattle.positions.proofs.own.Goals as goal

pub returns-then-j-count : goal.returns-then-j-count
returns-then-j-count c = let a = c.args in c.digit.ensures ∙ sym (own_in a.d a.count a.j c.if-j-count.true)

pub returns-else-j-count : goal.returns-else-j-count
returns-else-j-count c = let a = c.args in sym (own_out a.d a.count a.j c.if-j-count.false)
