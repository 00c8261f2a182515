-- `positions::core_in` meets its contract: place 0, or an entry; past the end there are zeros.
use Rattle.std.proofs.Common.{rules}
use Rattle.positions.specs.TableLaws.{core_none, core_some}
use mathlib.Core.Path.{sym, ◌∙◌}
use Rattle.positions.proofs.core_in.Goals as goal

pub returns-then-p-eq0 : goal.returns-then-p-eq0
returns-then-p-eq0 c = sym (core_none c.args.tab.now c.args.p c.if-p-eq0.true)

pub returns : goal.returns
returns c = c.core_from.ensures ∙ core_some c.args.tab.now c.args.p c.if-p-eq0.false c.unwrap_or-x.result (search rules)
