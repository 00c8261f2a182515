-- `positions::extent_in` meets its contract: place 0, or an entry; past the end there are zeros.
use Rattle.positions.specs.TableLaws.{entry_none, entry_some}
use Rattle.std.proofs.Common.{rules}
use mathlib.Core.Path.{sym}
use Rattle.positions.proofs.extent_in.Goals as goal

pub returns-then-p-eq0 : goal.returns-then-p-eq0
returns-then-p-eq0 c = sym (entry_none c.args.tab.now c.args.p c.if-p-eq0.true)

pub returns : goal.returns
returns c = entry_some c.args.tab.now c.args.p c.if-p-eq0.false c.unwrap_or-x.result (search rules)
