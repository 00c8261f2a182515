-- `objects::entry_of` meets its contract: the entry of record 8. Assumes nothing.
use native.Mathlib.Omega.{arith}
use mathlib.Core.Path.{◌∙◌}
use Rattle.stack.specs.Facts.{start_few}
use Rattle.objects.specs.Homes.{entry_is}
use Rattle.objects.proofs.entry_of.Goals as goal

pub overflow_add-at : goal.overflow_add-at
overflow_add-at c = omega (arith, c.start_of-at.ensures, start_few c.args.state.now.file.now c.from-g.result c.args.state.now.known.short)

pub returns : goal.returns
returns c = entry_is _ _ _ _ (c.from-g.ensures ∙ c.function.ensures) c.start_of-at.ensures c.record_at-x.ensures c.entry_of.ensures.0
